-- The names from outside these proofs that several of them cite, passed on from one place. Declares nothing.
pub use Rattle.dam_book.specs.Book.{AreRows, BookState, IsBook, IsLegalFrom, IsRow, Key, Row, are_linked, are_unique, block_count, book_after}
pub use Rattle.dam_book.specs.Book.{carried_out, changed, commands_of, empty_book, entries_from, hourly_count, is_day, is_found, names_parent}
pub use Rattle.dam_book.specs.Book.{parent_passes, refusal, run_from, same_key}
pub use Rattle.dam_book.specs.Fields.{pair_text, volumes_text}
pub use Rattle.dam_book.specs.Name.{IsName, IsParticipant, same_text}
pub use Rattle.dam_book.specs.Order.{amended, is_block, is_hour, is_parent, parent_of}
pub use Rattle.dam_book.specs.Period.{IsPeriod}
pub use Rattle.dam_book.specs.Price.{IsPrice}
pub use Rattle.dam_book.specs.Quantity.{IsQuantity}
pub use Rattle.dam_book.specs.Volumes.{ArePairs, IsVolumes, Pair, is_increasing}
pub use Rattle.dam_book.specs.declared.command.Command.{Command}
pub use Rattle.dam_book.specs.declared.command.Command.TheVariants.{Amend, Cancel, Close, Submit}
pub use Rattle.dam_book.specs.declared.command.Entry.{Entry}
pub use Rattle.dam_book.specs.declared.command.Reply.{Reply}
pub use Rattle.dam_book.specs.declared.order.Order.{Order}
pub use Rattle.dam_book.specs.declared.order.Order.TheVariants.{Block, Hour}
pub use Rattle.dam_book.specs.inside.Digits.{IsShort, value_from}
pub use Rattle.dam_book.specs.inside.Gaps.{AreNumbered, IsNumbered, Label, MapPlace, gap_count, one_if_gap, rows_of, same_label, with_place}
pub use Rattle.indexmap.proofs.CallerLemmas.{insert_entry-new}
pub use Rattle.std.proofs.Common.{Bool, Err, List, MatchOption, None, Ok, Option, Result, Some, [], ap, append_assoc, ap₂, arith, cond, count_by}
pub use Rattle.std.proofs.Common.{drop, eqb, false, get_or, if◌then◌else◌, is_some, length, map, nat_eq, nat_lt, negsuc, not, pos, refl, replicate}
pub use Rattle.std.proofs.Common.{rules, slice_get, subst, suc, sym, take, true, zero, ℕ, ℤ, ◌&&◌, ◌++◌, ◌+◌, ◌-◌, ◌<◌, ◌^◌, ◌||◌, ◌∙◌, ◌∷◌, ◌≡◌, ◌≢◌}
pub use Rattle.std.proofs.Common.{◌≤◌}
pub use Rattle.std.proofs.Math.Seq.{take-append_seam}
pub use Rattle.std.proofs.lemmas.Bool.Decides.{nat_tests}
pub use Rattle.std.proofs.lemmas.Fmt.{decimal_injective, digits_decimal, signed_decimal_injective}
pub use Rattle.std.proofs.lemmas.Int.{ints}
pub use Rattle.std.proofs.lemmas.List.{append-nil, drop_at, length-append, take_all, take_at, take_more}
pub use Rattle.std.proofs.lemmas.List.Sums.{sum_by-append}
pub use Rattle.std.proofs.lemmas.Map.{lookup-none}
pub use Rattle.std.proofs.lemmas.Map.Entries.{none_past_head}
pub use Rattle.std.proofs.lemmas.Map.Made.{lookup_key_passes}
pub use Rattle.std.proofs.lemmas.Str.Parse.{IsNumeralModel}
pub use Rattle.std.specs.Cmp.Lexicographic.{bytes_decides, pointwise}
pub use Rattle.std.specs.Int.{w32}
pub use Rattle.std.specs.List.{IsDistinct, join_with_byte, list_any, slice_split}
pub use Rattle.std.specs.Map.{keys_of, lookup, lookup_key, remove_entry, set_value}
pub use Rattle.std.specs.Option.{SomeIff}
pub use Rattle.std.specs.Prelude.{decimal}
pub use Rattle.std.specs.Str.{all_ascii_digits}
