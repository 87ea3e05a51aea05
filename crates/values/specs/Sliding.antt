-- The best stretch as the code finds it: stretch by stretch, the best so far against the next one. Assumes nothing: these are definitions.
-- That it is the first of the greatest among all stretches is in SlidingLaws.
use Rattle.std.specs.Prelude.{◌≡◌, Option, Some, None, ◌&&◌, cond, List, [], ◌∷◌, map, ◌⊎◌, ℕ, suc, ◌-◌, ◌*◌, ◌≤◌, leb, eqb, ℤ, pos, negsuc, nat_abs, length, take}
use Rattle.std.specs.Int.Signed.{lt_z}
use Rattle.members.specs.declared.Member.{Member}
use Rattle.members.specs.declared.Member.TheVariants.{BestSum, BestAt}
use Rattle.members.specs.Members.{member_number}
use Rattle.rules.specs.declared.Value.{Value}
use Rattle.rules.specs.declared.Value.TheVariants.{Number}
use Rattle.rules.specs.Values.{ranged}
use Rattle.values.specs.declared.stretches.Best.{Best}
use Rattle.rules.specs.Windows.{total}
use Rattle.rules.specs.Stretches.{stretches_from}

-- a sum is exact, and as small as so many readings of signed 32 bits make it
pub record Totals (xs : List ℤ) (t : ℤ) : Type 0 where
  pub exact : t ≡ total xs
  pub small : nat_abs t ≤ length xs * 2147483648

-- the width as a number of readings: none where there is no such stretch
abbrev pub width_in : ℤ → ℕ → Option ℕ
width_in (pos w) l = cond (leb 1 w && leb w l) (Some w) None
width_in (negsuc n) l = None

-- the earlier one where the sums are equal
abbrev pub better : Best → ℤ → ℕ → Best
better b z i = cond (lt_z b.sum z) (record { sum = z; at = i }) b

-- the best so far against the sums of the stretches that begin at i, i + 1 and so on
unfoldable pub best_from : Best → ℕ → List ℤ → Best
best_from b i [] = b
best_from b i (z ∷ zs) = best_from (better b z i) (suc i) zs

-- the sums of the stretches that begin after i
unfoldable pub sums_after : List ℤ → ℕ → ℕ → List ℤ
sums_after xs w i = map total (stretches_from xs w (suc i) (length xs - w - i))

unfoldable pub best : List ℤ → ℕ → Best
best xs w = best_from (record { sum = total (take w xs); at = 0 }) 1 (sums_after xs w 0)

-- what a member takes of the best stretch
abbrev pub chosen : Member → Best → Value
chosen m b = cond (eqb (member_number m) (member_number BestAt)) (Number (pos b.at)) (ranged b.sum)

-- the members that take something of the best stretch
abbrev pub Chooses : Member → Type 0
Chooses m = (m ≡ BestSum) ⊎ (m ≡ BestAt)
