-- The steps of fitting: a member by the kind of its argument, and a turn of the loops along a list. Assumes nothing.
use Rattle.std.specs.Prelude.{Option, Some, None}
use mathlib.Core.Path.{◌≡◌, refl, sym, ap, ◌∙◌}
use mathlib.Core.Bool.{Bool, true, false, not, ◌&&◌, and-eq-true_iff}
use mathlib.Core.List.{List, [], ◌∷◌}
use Prim.Native.Nat.{ℕ, suc, ◌+◌, ◌-◌, ◌≤◌, ◌<◌}
use native.Mathlib.Omega.{arith}
use native.Mathlib.Numerals.{add-one}
use borrow.Author.Rules.{rules}
use borrow.Author.Tests.{leb-true}
use lib.Dec.{leb, eqb}
use lib.ListN.{length, get_or, set, drop, drop_of_length-le}
use lib.Seq.{drop-cons}
use Rattle.language.specs.Limits.{table_entries}
use Rattle.members.specs.Members.{row, kind_number}
use Rattle.members.specs.declared.Kind.{Kind}
use Rattle.members.specs.declared.Kind.TheVariants.{Number, Window, Function, Nothing}
use Rattle.members.specs.declared.Member.{Member}
use Rattle.rules.specs.Rules.{Rule, two_numbers, window, window_number, window_runs, rule, if_runs}
use Rattle.rules.proofs.RulesLaws.{argument_of, argument-kind}
use Rattle.layout.specs.Nodes.{member_of_kind}
use Rattle.layout.specs.Links.{is_below}
use Rattle.chunks.specs.Rows.{settles}
use Rattle.chunks.specs.Fitting.{placed_of, fit_of, fits_of}

-- a rule runs no function, by the kind of its argument
runs_none : (r : Rule) (n : ℕ) → n ≡ kind_number (argument_of r) → not (eqb n 3) ≡ if_runs true r (λ f. false)
runs_none (two_numbers f) n e = rw e
runs_none (window f) n e = rw e
runs_none (window_number f) n e = rw e
runs_none (window_runs f) n e = rw e

settles-by : (kind : ℕ) (f : Option Member) (m : Member) (a : Kind) → f ≡ member_of_kind kind → f ≡ Some m → a ≡ (row m).argument → not (eqb (kind_number a) 3) ≡ settles kind
unfolding settles
settles-by kind f m a o e b = rw (← o, e) (runs_none (rule m) (kind_number a) (ap kind_number b ∙ argument-kind m))

pub settles-not : (kind : ℕ) (f : Option Member) (m : Member) (a : Kind) → f ≡ member_of_kind kind → f ≡ Some m → a ≡ (row m).argument → a ≡ Function → false ≡ settles kind
settles-not kind f m a o e b q = (rw q) ∙ settles-by kind f m a o e b

no_function : (a : Kind) → (a ≡ Function → ⊥) → true ≡ not (eqb (kind_number a) 3)
no_function Number h = refl
no_function Window h = refl
no_function Function h = absurd (h refl)
no_function Nothing h = refl

pub settles-other : (kind : ℕ) (f : Option Member) (m : Member) (a : Kind) → f ≡ member_of_kind kind → f ≡ Some m → a ≡ (row m).argument → (a ≡ Function → ⊥) → true ≡ settles kind
settles-other kind f m a o e b h = no_function a h ∙ settles-by kind f m a o e b

pub settles-none : (kind : ℕ) (f : Option Member) → f ≡ member_of_kind kind → f ≡ None → false ≡ settles kind
unfolding settles
settles-none kind f o e = rw (← o, e)

-- a link to an entry below
module _ (b : Bool) (link i : ℕ) (o : b ≡ is_below link i) (e : b ≡ true) where
  below : (1 ≤ link) × (link ≤ i)
  below =
      let both = (and-eq-true_iff (leb 1 link) (leb link i)).0 (sym o ∙ e) in
      (leb-true 1 link both.0, leb-true link i both.1)

  pub below_one : 1 ≤ link
  below_one = below.0

  pub below-place : (body : ℕ) → i ≤ body → body < table_entries → link - 1 < table_entries
  below-place body l h = omega (arith, below.1)

-- a loop along a list, before its entry k, which is marked k + 3: what is left gives the same
pub record Along {A : Type 0} (f g : ℕ → List ℕ → A) (list : List ℕ) (k : ℕ) : Type 0 where
  pub same : f 3 list ≡ g (k + 3) (drop k list)

module _ {A : Type 0} (f g : ℕ → List ℕ → A) (list : List ℕ) (k : ℕ) (along : Along f g list k) where
  pub along-next : k < length list → f 3 list ≡ g (k + 3) (get_or list k 0 ∷ drop (k + 1) list)
  along-next h = along.same ∙ ap (g (k + 3)) (rw add-one (drop-cons list k 0 h))

  pub along-again : (g' : ℕ → List ℕ → A) → k < length list → g (k + 3) (get_or list k 0 ∷ drop (k + 1) list) ≡ g' (suc (k + 3)) (drop (k + 1) list) → Along f g' list (k + 1)
  along-again g' h e =
      let n : suc (k + 3) ≡ k + 1 + 3 = omega arith in
      record { same = along-next h ∙ e ∙ ap (λ (m : ℕ). g' m (drop (k + 1) list)) n }

  pub along-end : length list ≤ k → f 3 list ≡ g (k + 3) []
  along-end h = along.same ∙ ap (g (k + 3)) (drop_of_length-le list {i = k} h)

-- a turn of the test whether a list fits, by what the test of its entry says
module _ (links map : List ℕ) (body : ℕ) (list : List ℕ) (k : ℕ) (along : Along (fits_of links map body) (fits_of links map body) list k) where
  module _ (h : k < length list) (r : Bool) (o : r ≡ fit_of links map body (k + 3) (get_or list k 0)) where
    turned : fits_of links map body (k + 3) (get_or list k 0 ∷ drop (k + 1) list) ≡ (r && fits_of links map body (suc (k + 3)) (drop (k + 1) list))
    unfolding fits_of
    turned = rw (← o)

    pub fits-again : r ≡ true → Along (fits_of links map body) (fits_of links map body) list (k + 1)
    fits-again e = along-again (fits_of links map body) (fits_of links map body) list k along (fits_of links map body) h (turned ∙ rw e)

    pub fits-stop : r ≡ false → false ≡ fits_of links map body 3 list
    fits-stop e = sym (along-next (fits_of links map body) (fits_of links map body) list k along h ∙ turned ∙ rw e)

  pub fits-end : length list ≤ k → leb 2 (get_or map body 0) ≡ fits_of links map body 3 list
  unfolding fits_of
  fits-end h = sym (along-end (fits_of links map body) (fits_of links map body) list k along h)

-- the map as what is left of a list leaves it
abbrev pub marked : ℕ → List ℕ → ℕ → List ℕ → List ℕ
marked v map c js = placed_of v c js map

-- a turn of marking a list's entries
module _ (v : ℕ) (before map list : List ℕ) (k : ℕ) (along : Along (marked v before) (marked v map) list k) where
  pub place-again : k < length list → Along (marked v before) (marked v (set map (get_or list k 0) (k + 3))) list (k + 1)
  unfolding placed_of
  place-again h = along-again (marked v before) (marked v map) list k along (marked v (set map (get_or list k 0) (k + 3))) h refl

  pub place_end : length list ≤ k → set map (v - 1) 2 ≡ placed_of v 3 list before
  unfolding placed_of
  place_end h = sym (along-end (marked v before) (marked v map) list k along h)

pub ruleset fitting = (rules, settles-not, settles-other, settles-none, below_one, below-place, fits-again, fits-stop, fits-end, place-again, place_end)
