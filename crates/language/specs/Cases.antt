-- Cases of a test, for every crate: of a test that stays known as an equation, and of a test made of two. What `&&` and a false `||` tell is
-- the library's `and-eq-true_iff` and `or-eq-false-eq-eq-false-and-eq-false`, and cases of a choice by its test are its `cond_both`. Assumes nothing.
use Rattle.std.specs.Prelude.{◌≡◌, refl, Bool, true, false, ◌||◌}

-- by the value of a test
pub split : {A : Type 0} (b : Bool) → (b ≡ true → A) → (b ≡ false → A) → A
split true t f = t refl
split false t f = f refl

-- by whichever of two tests holds: the library's `or-eq-true_iff` concludes only what has one proof
pub either : {A : Type 0} (a b : Bool) → (a || b) ≡ true → (a ≡ true → A) → (b ≡ true → A) → A
either true b e f g = f refl
either false b e f g = g e
