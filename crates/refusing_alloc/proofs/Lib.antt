-- The lemmas that several functions need.
mod Handle
mod Due
