-- Each call sets one part of the rule.
use Rattle.std.proofs.Common.{◌≡◌, ◌∙◌, ◌≤◌, ◌∷◌, [], ℕ, Some, pos, ap, arith, rules}
use Rattle.std.proofs.lemmas.Int.{ints}
use Rattle.std.specs.Prelude.{decimal}
use Rattle.std.specs.Range.{range_inclusive_start, range_inclusive_end}
use Rattle.clap.specs.Words.{NarrowsTo, Rule}
use Rattle.clap.specs.declared.builder.action.ArgAction.TheVariants.{Set}
use Rattle.clap.specs.declared.builder.value_parser.ValueParser.{ValueParser}
use Rattle.clap.specs.declared.builder.value_parser.ValueParser.TheVariants.{Signed}
use Rattle.dam_line.proofs.command.number_option.Goals as goal

-- a range narrows the parser of `u32` to itself
narrowed : (least most : ℕ) (parser : ValueParser) → least ≤ 4294967295 → most ≤ 4294967295 → NarrowsTo (Signed (pos 0) (pos 4294967295))
    (Some (pos least)) (Some (pos most)) parser → parser ≡ Signed (pos least) (pos most)
narrowed least most parser low high to = search rules

pub returns-clause-rule : goal.returns-clause-rule
returns-clause-rule c =
    let option = c.args.option in
    let start : range_inclusive_start c.new-range.result ≡ pos option.least = omega (arith, ints) in
    let end : range_inclusive_end c.new-range.result ≡ pos option.most = omega (arith, ints) in
    let to = rw (c.value_parser.ensures, start, end) at c.range.ensures in
    let given = c.value_parser-2.ensures.given in
    let parser : c.value_parser-2.result.value_parser ≡ Some (Signed (pos option.least) (pos option.most)) = given.1 ∙ ap Some
    (given.2 ∙ narrowed option.least option.most c.range.result (omega arith) (omega arith) to) in
    rw (
      c.help.ensures,
      c.default_value.ensures,
      c.value_parser-2.ensures.others,
      c.value_name.ensures,
      c.action.ensures,
      c.long.ensures,
      parser,
      c.requires.default,
    )
    (ap (λ (r : Rule). record r {
      long = Some option.name.now;
      action = Some Set;
      value_names = 1;
      parser = Some
          (Signed (pos option.least) (pos option.most));
      defaults = decimal option.default ∷ [];
    }) c.new.ensures.rule)
