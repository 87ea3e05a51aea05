-- Where every entry of a list is a member that runs no function, working it out asks for no run: the runs over such a list are the plain ones.
-- Assumes nothing.
use Rattle.std.specs.Prelude.{Option, Some, None}
use mathlib.Core.Path.{◌≡◌, refl, sym, ap, ◌∙◌}
use mathlib.Core.Bool.{Bool, true, false, cond, ◌&&◌, and-eq-true_iff, false≢true}
use mathlib.Core.List.{List, [], ◌∷◌}
use Prim.Native.Nat.{ℕ, zero, suc, ◌+◌, ◌-◌, ◌≤◌, ◌<◌}
use native.Mathlib.Omega.{arith}
use borrow.Author.Tests.{ltb-false, le-ltb, le-leb, ne_eqb, leb-true}
use lib.Dec.{leb, ltb}
use lib.IntN.{ℤ}
use lib.ListN.{get_or, set}
use Rattle.language.specs.Cases.{split}
use Rattle.members.specs.Members.{if_member}
use Rattle.members.specs.declared.Member.{Member}
use Rattle.rules.specs.declared.Value.{Value}
use Rattle.rules.specs.declared.Value.TheVariants.{Number, Window, Function, Delayed, Missing}
use Rattle.rules.specs.Values.{wrong_kind, if_window, if_function}
use Rattle.rules.specs.Rules.{Rule, two_numbers, window, window_number, window_runs, rule, if_runs}
use Rattle.rules.specs.Apply.{apply1}
use Rattle.values.specs.declared.apply.Applied.{Applied}
use Rattle.values.specs.declared.apply.Applied.TheVariants.{Done, Run}
use Rattle.values.specs.declared.runs.Tally.{Tally}
use Rattle.values.specs.Applied.{applied1}
use Rattle.values.specs.Tallies.{stepped}
use Rattle.values.specs.Packing.{pack_of, unpack_of}
use Rattle.layout.specs.Nodes.{function_kind, first_member, member_of_kind}
use Rattle.layout.specs.Links.{kind_at, first_at, second_at, is_below}
use Rattle.columns.specs.Calling.{bounded_of, call_of, settled_of, cell_of}
use Rattle.chunks.proofs.Filling.{linking}
use Rattle.chunks.specs.Rows.{bound, fill_of, set_of, over_of, plain_of, settles, is_plain, are_plain}
use Rattle.evaluator.specs.declared.working.Task.TheVariants.{Known}
use Rattle.evaluator.specs.Applying.{graph, plan_of, follow_of, finish_of, apply_at, Applies}

-- a member that runs no function is done
same-window : {A : Type 0} (d : A) (v : Value) (g : ℕ → ℕ → A) → ((s l : ℕ) → g s l ≡ d) → if_window d v g ≡ d
same-window d (Number z) g h = refl
same-window d (Window s l) g h = h s l
same-window d Function g h = refl
same-window d Delayed g h = refl
same-window d (Missing r) g h = refl

same-function : {A : Type 0} (d : A) (w : Value) → if_function d w d ≡ d
same-function d (Number z) = refl
same-function d (Window s l) = refl
same-function d Function = refl
same-function d Delayed = refl
same-function d (Missing r) = refl

same-rule : {A : Type 0} (r : Rule) (d e : A) → if_runs true r (λ f. false) ≡ true → if_runs d r (λ f. e) ≡ d
same-rule (two_numbers f) d e h = refl
same-rule (window f) d e h = refl
same-rule (window_number f) d e h = refl
same-rule (window_runs f) d e h = absurd (false≢true h)

settles-done : (m : Member) (xs : List ℤ) (v w : Value) → if_runs true (rule m) (λ f. false) ≡ true → applied1 m xs v w ≡ Done (apply1 m xs v w (λ z. Missing wrong_kind))
unfolding applied1
settles-done m xs v w h =
    let done : Applied = Done (apply1 m xs v w (λ z. Missing wrong_kind)) in
    same-window done v _ (λ s l. ap (λ (d : Applied). if_function done w d) (same-rule (rule m) done (Run s l) h) ∙ same-function done w)

-- and asks for no run
call-done : (f : Option Member) (xs : List ℤ) (a b : ℕ) → if_member false f (λ m. if_runs true (rule m) (λ g. false)) ≡ true
    → (links waits : List ℕ) (at kind : ℕ) → follow_of links waits at kind (call_of f xs a b) ≡ Known (settled_of (call_of f xs a b))
unfolding call_of settled_of follow_of
call-done None xs a b h links waits at kind = absurd (false≢true h)
call-done (Some m) xs a b h links waits at kind = rw (settles-done m xs (bounded_of (unpack_of a)) (unpack_of b) h)

-- such a kind is above that of a function
settles-above : (kind : ℕ) → settles kind ≡ true → function_kind < kind
unfolding settles member_of_kind
settles-above kind h = split (ltb kind first_member) (λ e. absurd (false≢true (sym (rw e) ∙ h))) (λ e. omega (arith, ltb-false kind first_member e))

module _ (links waits : List ℕ) (xs : List ℤ) (body : ℕ) where
  module _ (j : ℕ) (p : is_plain links body j ≡ true) where
    plain-low : j ≤ body
    plain-low = leb-true j body ((and-eq-true_iff (leb j body) _).0 p).0

    plain-member : settles (kind_at links j) ≡ true
    plain-member = ((and-eq-true_iff (settles (kind_at links j)) (is_below (first_at links j) j)).0 ((and-eq-true_iff (leb j body) _).0 p).1).0

    plain-first : is_below (first_at links j) j ≡ true
    plain-first = ((and-eq-true_iff (settles (kind_at links j)) (is_below (first_at links j) j)).0 ((and-eq-true_iff (leb j body) _).0 p).1).1

    plan-plain : (frame : List ℕ) → plan_of (graph links waits xs) frame j ≡ Known (plain_of links xs frame j)
    unfolding plan_of plain_of cell_of settles
    plan-plain frame =
        let high : function_kind < kind_at links j = settles-above (kind_at links j) plain-member in
        rw (le-ltb (kind_at links j) function_kind (omega (arith, high)), plain-first, ne_eqb (kind_at links j) function_kind (λ e. omega (arith, high)))
        (split (is_below (second_at links j) j) (λ e. rw e (call-done (member_of_kind (kind_at links j)) xs _ _ plain-member links waits _ _)) (λ e. rw e))

    plain-applies : (frame : List ℕ) (f : ℕ) → body < f → apply_at (graph links waits xs) f frame j ≡ plain_of links xs frame j
    unfolding apply_at finish_of
    plain-applies frame zero h = absurd (omega arith)
    plain-applies frame (suc f) h = rw (plan-plain frame)

  fill-plain : (f top : ℕ) → body < f → (list frame : List ℕ) → are_plain links body list ≡ true
      → fill_of (apply_at (graph links waits xs) f) top list frame ≡ fill_of (plain_of links xs) top list frame
  unfolding fill_of are_plain
  fill-plain f top h [] frame p = refl
  fill-plain f top h (j ∷ js) frame p =
      let one : is_plain links body j ≡ true = ((and-eq-true_iff (is_plain links body j) (are_plain links body js)).0 p).0 in
      let rest : are_plain links body js ≡ true = ((and-eq-true_iff (is_plain links body j) (are_plain links body js)).0 p).1 in
      rw (plain-applies j one frame f h, fill-plain f top h js (set frame j (plain_of links xs frame j)) rest)

  -- the runs over a list of such members
  pub over_plain : (f : ℕ) → body < f → (list : List ℕ) → are_plain links body list ≡ true → (v : ℕ) (zs : List ℤ) (frame : List ℕ) (t : Tally)
      → over_of (apply_at (graph links waits xs) f) body list v frame t zs ≡ over_of (plain_of links xs) body list v frame t zs
  unfolding over_of
  over_plain f h list p v [] frame t = refl
  over_plain f h list p v (z ∷ zs) frame t =
      let after : List ℕ = set_of (plain_of links xs) (body + 1) list v (pack_of (Number z)) frame in
      let u : Tally = stepped t (unpack_of (get_or after body 0)) in
      rw (fill-plain f (body + 1) h list (bound frame v (pack_of (Number z))) p)
      (ap (λ (rest : Tally). cond u.stopped u rest) (over_plain f h list p v zs after u))

-- ---- as the code has it: whether entry j is such a member, and what it comes to
module _ (links : List ℕ) (j k : ℕ) (p : k ≡ kind_at links j) where
  module _ (s : Bool) (e : s ≡ settles k) where
    pub plain-yes : (f : ℕ) (b : Bool) → f ≡ first_at links j → b ≡ is_below f j → s ≡ true → b ≡ (settles (kind_at links j) && is_below (first_at links j) j)
    plain-yes f b q o t = rw (← p, ← q, sym e ∙ t) o

    pub plain-no : s ≡ false → false ≡ (settles (kind_at links j) && is_below (first_at links j) j)
    plain-no t = rw (← p, sym e ∙ t)

  module _ (xs : List ℤ) (frame : List ℕ) (f l c : ℕ) (b : Bool) (q : f ≡ first_at links j) (r : l ≡ second_at links j) (o : b ≡ is_below l j) where
    pub plain-two : b ≡ true → c ≡ cell_of (member_of_kind k) xs true (get_or frame (f - 1) 0) (get_or frame (l - 1) 0) → c ≡ plain_of links xs frame j
    unfolding plain_of
    plain-two t h = rw (← p, ← q, ← r, sym o ∙ t) h

    pub plain-one : b ≡ false → c ≡ cell_of (member_of_kind k) xs false (get_or frame (f - 1) 0) 0 → c ≡ plain_of links xs frame j
    unfolding plain_of cell_of
    plain-one t h = rw (← p, ← q, ← r, sym o ∙ t) h

pub plain-is : (links waits : List ℕ) (xs : List ℤ) (frame : List ℕ) (j v r : ℕ) (b : Bool) → b ≡ (settles (kind_at links j) && is_below (first_at links j) j) → b ≡ true
    → r ≡ plain_of links xs frame j → v ≡ r → Applies (graph links waits xs) frame j v
plain-is links waits xs frame j v r b e t o d =
    let p : is_plain links j j ≡ true = rw (le-leb j j (omega arith)) (sym e ∙ t) in
    λ f h. plain-applies links waits xs j j p frame f h ∙ sym (d ∙ o)

pub ruleset plainly = (linking, plain-yes, plain-no, plain-two, plain-one)
