-- The clearing prices of periods at the same net volume.
use Rattle.std.specs.Prelude.{◌≡◌, ℤ, pos, ◌+ℤ◌, List, [], ◌∷◌}
use Rattle.dam_hour.specs.Price.{AreEnds, price_between}
use Rattle.dam_hour.specs.declared.step.Step.{Step}

-- the clearing prices of the periods at the same net volume, added up
abbrev pub IsJointPrice : List (List Step) → ℤ → ℤ → Type 0
IsJointPrice [] net price = price ≡ pos 0
IsJointPrice (steps ∷ periods) net price =
    (low : ℤ) × (high : ℤ) × (rest : ℤ) × AreEnds steps net low high × IsJointPrice periods net rest
    × (price ≡ price_between low high +ℤ rest)
