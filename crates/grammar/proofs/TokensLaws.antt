-- A choice between two values that are not yet computed, by its test; and what is taken while a test passes, passes it. Assumes nothing.
use Rattle.std.specs.Prelude.{◌≡◌, refl, Bool, true, false, List, [], ◌∷◌, ℕ, take}
use Rattle.language.specs.NamesLaws.{Each}
use Rattle.grammar.specs.Tokens.{when, leading}

pub by-test : {A : Type 0} (P : A → Type 0) (b : Bool) (x y : Unit {0} → A) → (b ≡ true → P (x tt)) → (b ≡ false → P (y tt)) → P (when b x y)
unfolding when
by-test P true x y f g = f refl
by-test P false x y f g = g refl

pub leading-each : (p : ℕ → Bool) (bs : List ℕ) → Each (λ b. p b ≡ true) (take (leading p bs) bs)
unfolding leading
leading-each p [] = tt
leading-each p (b ∷ bs) = by-test (λ n. Each (λ b. p b ≡ true) (take n (b ∷ bs))) (p b) _ _ (λ e. (e, leading-each p bs)) (λ _. tt)
