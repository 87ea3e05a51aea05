-- When a member is delayed: exactly where a dependency is and none is missing. So a form that is delayed awaits a name. Assumes nothing.
use Rattle.std.specs.Prelude.{◌≡◌, refl, Bool, true, false, ◌||◌, List, ℤ}
use Rattle.std.proofs.lemmas.Bool.{false≢true}
use Rattle.std.proofs.Common.{sym, ◌∙◌}
use Rattle.language.specs.Cases.{split}
use Rattle.members.specs.declared.Member.{Member}
use Rattle.rules.specs.declared.Value.{Value}
use Rattle.rules.specs.declared.Value.TheVariants.{Number, Window, Function, Delayed, Missing}
use Rattle.rules.specs.Rules.{rule}
use Rattle.rules.specs.Apply.{is_missing, is_delayed, by_rule0, by_rule1, apply0, apply1}
use Rattle.values.specs.KeepableLaws.{Closed, Given}
use Rattle.values.specs.KeepableApply.{closed-rule0, closed-rule1}

-- results of rules: neither delayed nor a function
abbrev pub is_plain : Value → Bool
is_plain (Number z) = true
is_plain (Window s l) = true
is_plain Function = false
is_plain Delayed = false
is_plain (Missing r) = true

abbrev pub Plain : Value → Type 0
Plain v = is_plain v ≡ true

plain : Closed Plain
plain = record { small = λ z h. refl; reason = λ r h q. refl; part = λ s l s' l' h w. refl; count = λ s l j h w. refl }

given-plain : (v : Value) → Given Plain v
given-plain (Number z) = tt
given-plain (Window s l) = refl
given-plain Function = tt
given-plain Delayed = tt
given-plain (Missing r) = refl

pub plain-rule0 : (m : Member) (xs : List ℤ) (v : Value) → is_plain (by_rule0 (rule m) xs v) ≡ true
plain-rule0 m xs v = closed-rule0 Plain plain m xs (λ i h. refl) v (given-plain v)

pub plain-rule1 : (m : Member) (xs : List ℤ) (v w : Value) (run : ℤ → Value) → is_plain (by_rule1 (rule m) xs v w run) ≡ true
plain-rule1 m xs v w run = closed-rule1 Plain plain m xs (λ i h. refl) run (λ x h. given-plain (run x)) v w (given-plain v)

-- a plain value is not delayed
plain-not : (v : Value) → is_plain v ≡ true → is_delayed v ≡ false
plain-not (Number z) h = refl
plain-not (Window s l) h = refl
plain-not Function h = absurd (false≢true h)
plain-not Delayed h = absurd (false≢true h)
plain-not (Missing r) h = refl

missing-not : (v : Value) → is_missing v ≡ true → is_delayed v ≡ false
missing-not (Number z) h = absurd (false≢true h)
missing-not (Window s l) h = absurd (false≢true h)
missing-not Function h = absurd (false≢true h)
missing-not Delayed h = absurd (false≢true h)
missing-not (Missing r) h = refl

-- delayed: only by a dependency
pub delayed0 : (m : Member) (xs : List ℤ) (v : Value) → is_delayed (apply0 m xs v) ≡ true → is_delayed v ≡ true
unfolding apply0
delayed0 m xs v h =
    split (is_delayed v) (λ e. e)
    (λ e.
    split (is_missing v)
    (λ x. absurd (false≢true (sym (missing-not v x) ∙ rw x at h)))
    (λ x. absurd (false≢true (sym (plain-not (by_rule0 (rule m) xs v) (plain-rule0 m xs v)) ∙ rw (x, e) at h))))

pub delayed1 : (m : Member) (xs : List ℤ) (v w : Value) (run : ℤ → Value) → is_delayed (apply1 m xs v w run) ≡ true → (is_delayed v || is_delayed w) ≡ true
unfolding apply1
delayed1 m xs v w run h =
    split (is_delayed v || is_delayed w) (λ e. e)
    (λ e.
    split (is_missing v)
    (λ x. absurd (false≢true (sym (missing-not v x) ∙ rw x at h)))
    (λ x.
    split (is_missing w)
    (λ y. absurd (false≢true (sym (missing-not w y) ∙ rw (x, y) at h)))
    (λ y. absurd (false≢true (sym (plain-not (by_rule1 (rule m) xs v w run) (plain-rule1 m xs v w run)) ∙ rw (x, y, e) at h)))))
