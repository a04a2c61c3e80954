-- Where the cycles in use of small blocks come.
use Rattle.std.proofs.Common.{◌≡◌, [], ◌∷◌, refl}
use Rattle.un_compact.specs.Squeezes.{is_in, squeezed}

-- of 0, 5 and 9 the second comes to 2 and the end to 4
far_pin : squeezed (is_in (0 ∷ 9 ∷ 5 ∷ [])) 5 ≡ 2
far_pin = refl

end_pin : squeezed (is_in (0 ∷ 9 ∷ 5 ∷ [])) 9 ≡ 4
end_pin = refl

-- distances of one and two cycles stay, and one of three becomes two
near_pin : squeezed (is_in (0 ∷ 3 ∷ 1 ∷ [])) 3 ≡ 3
near_pin = refl

three_pin : squeezed (is_in (0 ∷ 6 ∷ 1 ∷ 3 ∷ [])) 6 ≡ 5
three_pin = refl
