-- The terms of an option and its texts, which contracts see.
use Rattle.std.specs.Prelude.{◌≡◌, ◌-◌, ◌++◌, length, drop, codes, decimal}
use Rattle.dam_line.specs.Line.{OptionTerms}
use Rattle.dam_line.specs.declared.options.NumberOption.{NumberOption}

-- the terms of an option
abbrev pub terms_of : NumberOption → OptionTerms
terms_of option = record { name = option.name.now; least = option.least; most = option.most; default = option.default }

-- the texts of an option have its numbers: the default, and the range at the end of the help
pub record HasItsNumbers (option : NumberOption) : Type 0 where
  pub default : option.default_text.now ≡ decimal option.default
  pub range :
      let range = codes ", from " ++ (decimal option.least ++ (codes " to " ++ decimal option.most)) in
      drop (length option.help.now - length range) option.help.now ≡ range
