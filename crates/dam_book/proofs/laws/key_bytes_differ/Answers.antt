-- A key is known from the bytes that it is hashed as.
use Rattle.dam_book.proofs.KeyBytes.{key_bytes_injective}
use Rattle.dam_book.proofs.laws.key_bytes_differ.Goals as goal

pub returns : goal.returns
returns c = key_bytes_injective
