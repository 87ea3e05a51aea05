-- A tree has no fault exactly where it keeps the limits in plain words.
-- First of a list of notes: none is at fault where each note by itself is fine and the parts are not too many. Then of a tree, site by site.
-- Assumes nothing.
use Rattle.std.specs.Prelude.{◌≡◌, refl, ◌↔◌, Bool, true, ℕ, zero, suc, ◌+◌, ◌-◌, ◌≤◌, leb, eqb}
use Rattle.std.proofs.Common.{ap, true≢false}
use Rattle.std.proofs.Math.Logic.Iff as Iff
use Rattle.std.proofs.Math.Bool.{false}
use mathlib.Core.List.{List, [], ◌∷◌}
use native.Mathlib.Omega.{arith}
use Rattle.language.specs.Limits.{text_parts}
use Rattle.members.specs.Members.{member_of, is_unknown, takes}
use Rattle.grammar.specs.Grammar.{Expression, Calls, Arguments, More, let_in, lambda, name, literal, bracket, done, call, none, first, last, next}
use Rattle.grammar.specs.Faults.{Fault, fine, fault_number, Around, outermost, opened, in_lambda}
use Rattle.grammar.specs.Faults.{call_fault, Note, note, plain, notes_e, notes_c, notes_a, notes_m, or_many, fault, counted, faults, faults_of, Clean}
use Rattle.grammar.specs.KeptLimits.{parts_e, parts_c, parts_a, parts_m, given_m, given_a, Site, a_let, a_lambda, a_bracket, a_name, a_number, a_call, EverywhereE, EverywhereC, EverywhereA, EverywhereM}
use Rattle.grammar.specs.KeptLimits.{Limited, KeepsLimits}
use Rattle.grammar.proofs.SingleLimits.{FewLambdas, ShortNames, DataUnbound, SmallNumbers, RightCalls, KeepsEach}
use Rattle.grammar.proofs.FaultLaws.{not-leb-iff, eqb-iff, is_false, same-fault, deep-fine, mark-fine, lambda-fine, binder-fine, name-fine, literal-fine, call-fine}

abbrev AllFine : List Note → Type 0
AllFine [] = Unit {0}
AllFine (note f p ∷ ns) = (f ≡ fine) × AllFine ns

unfoldable parts_in : List Note → ℕ
parts_in [] = 0
parts_in (note f true ∷ ns) = suc (parts_in ns)
parts_in (note f false ∷ ns) = parts_in ns

no_number : (n : ℕ) (b : Bool) → (or_many n b ≡ 0) ↔ ((n ≡ 0) × (b ≡ false))
no_number zero true = (λ h. absurd (omega arith), λ h. absurd (true≢false h.1))
no_number zero false = (λ h. (refl, refl), λ h. refl)
no_number (suc n) b = (λ h. absurd (omega arith), λ h. absurd (omega arith))

no-fault : (f : Fault) (b : Bool) → (or_many (fault_number f) b ≡ 0) ↔ ((f ≡ fine) × (b ≡ false))
unfolding fault_number
no-fault f b = Iff.trans (no_number (fault_number f) b) (Iff.and (same-fault f fine, ap fault_number) Iff.rfl)

clean-fine : (ns : List Note) (c : ℕ) → c ≤ text_parts → Clean (faults c ns) ↔ (AllFine ns × (c + parts_in ns ≤ text_parts))
unfolding faults fault counted parts_in
clean-fine [] c h = (λ k. (tt, omega arith), λ k. tt)
clean-fine (note f true ∷ ns) c h = (
  λ k.
      let y = (no-fault f (leb text_parts c)).0 k.0 in
      let z = (clean-fine ns (suc c) ((not-leb-iff text_parts c).0 y.1)).0 k.1 in
      ((y.0, z.0), omega arith),
  λ k.
      let l : c + suc (parts_in ns) ≤ text_parts = k.1 in
      ((no-fault f (leb text_parts c)).1 (k.0.0, (not-leb-iff text_parts c).1 (omega arith)), (clean-fine ns (suc c) (omega arith)).1 (k.0.1, omega arith)),
)
clean-fine (note f false ∷ ns) c h = (
  λ k. let z = (clean-fine ns c h).0 k.1 in ((((no-fault f false).0 k.0).0, z.0), z.1),
  λ k. ((no-fault f false).1 (k.0.0, refl), (clean-fine ns c h).1 (k.0.1, k.1)),
)

-- the parts of the notes are those of the tree
mutual
  unfolding notes_e parts_in parts_e

  parts-E : (e : Expression) (w : Bool) (d : Around) (u : List Note) → parts_in (notes_e e w d u) ≡ parts_e e + parts_in u
  parts-E (let_in x a b) w d u =
      let h = parts-E a false (opened d) (plain ∷ notes_e b false (opened d) u) in
      let k = parts-E b false (opened d) u in omega arith
  parts-E (lambda x b) w d u = let h = parts-E b false (in_lambda d) u in omega arith
  parts-E (name x r) w d u = let h = parts-C r d u in omega arith
  parts-E (literal z r) w d u = let h = parts-C r d u in omega arith
  parts-E (bracket e r) w d u = let h = parts-E e false (opened d) (plain ∷ notes_c r d u) in let k = parts-C r d u in omega arith

  parts-C : (r : Calls) (d : Around) (u : List Note) → parts_in (notes_c r d u) ≡ parts_c r + parts_in u
  parts-C done d u = omega arith
  parts-C (call m a) d u = let h = parts-A a (takes (member_of m)) d u in omega arith

  parts-A : (a : Arguments) (k : ℕ) (d : Around) (u : List Note) → parts_in (notes_a a k d u) ≡ parts_a a + parts_in u
  parts-A (none r) k d u = parts-C r d u
  parts-A (first e x) k d u = let h = parts-E e (eqb k 0) (opened d) (notes_m x (k - 1) d u) in let l = parts-M x (k - 1) d u in omega arith

  parts-M : (x : More) (k : ℕ) (d : Around) (u : List Note) → parts_in (notes_m x k d u) ≡ parts_m x + parts_in u
  parts-M (last r) k d u = parts-C r d u
  parts-M (next e x) k d u = let h = parts-E e false (opened d) (notes_m x (k - 1) d u) in let l = parts-M x (k - 1) d u in omega arith

-- a ) with no argument to come; an argument or a comma with one to come
none_left : (k : ℕ) → (call_fault (leb 1 k) ≡ fine) ↔ (0 ≡ k)
none_left k = Iff.trans (call-fine (leb 1 k)) (Iff.trans (not-leb-iff 1 k) (λ h. omega arith, λ h. omega arith))

some_left : (k : ℕ) → (eqb k 0 ≡ false) ↔ (1 ≤ k)
some_left k = Iff.trans (is_false (eqb k 0)) (Iff.trans (Iff.not (eqb-iff k 0)) (λ h. omega arith, λ h e. omega arith))

mutual
  unfolding notes_e given_a

  fine-E : (e : Expression) (w : Bool) (d : Around) (u : List Note) → AllFine (notes_e e w d u) ↔ ((w ≡ false) × EverywhereE Limited e d × AllFine u)
  fine-E (let_in x a b) w d u =
      let A = fine-E a false (opened d) (plain ∷ notes_e b false (opened d) u) in
      let B = fine-E b false (opened d) u in (
        λ h.
            let m = (mark-fine d w).0 h.0 in
            let p = A.0 h.1.1.1 in
            let q = B.0 p.2.1 in
            (m.0, ((m.1, (binder-fine x).0 h.1.0), p.1, q.1), q.2),
        λ h. ((mark-fine d w).1 (h.0, h.1.0.0), ((binder-fine x).1 h.1.0.1, (refl, A.1 (refl, h.1.1, (refl, B.1 (refl, h.1.2, h.2)))))),
      )
  fine-E (lambda x b) w d u =
      let B = fine-E b false (in_lambda d) u in (
        λ h.
            let m = (lambda-fine d w).0 h.0 in
            let q = B.0 h.1.1.1 in
            (m.0, ((m.1, (binder-fine x).0 h.1.0), q.1), q.2),
        λ h. ((lambda-fine d w).1 (h.0, h.1.0.0), ((binder-fine x).1 h.1.0.1, (refl, B.1 (refl, h.1.1, h.2)))),
      )
  fine-E (name x r) w d u = (
    λ h. let m = (name-fine w x).0 h.0 in let q = (fine-C r d u).0 h.1 in (m.1, (m.0, q.0), q.1),
    λ h. ((name-fine w x).1 (h.1.0, h.0), (fine-C r d u).1 (h.1.1, h.2)),
  )
  fine-E (literal z r) w d u = (
    λ h. let m = (literal-fine w z).0 h.0 in let q = (fine-C r d u).0 h.1 in (m.1, (m.0, q.0), q.1),
    λ h. ((literal-fine w z).1 (h.1.0, h.0), (fine-C r d u).1 (h.1.1, h.2)),
  )
  fine-E (bracket e r) w d u =
      let A = fine-E e false (opened d) (plain ∷ notes_c r d u) in (
        λ h.
            let m = (mark-fine d w).0 h.0 in
            let p = A.0 h.1 in
            let q = (fine-C r d u).0 p.2.1 in
            (m.0, (m.1, p.1, q.0), q.1),
        λ h. ((mark-fine d w).1 (h.0, h.1.0), A.1 (refl, h.1.1, (refl, (fine-C r d u).1 (h.1.2, h.2)))),
      )

  fine-C : (r : Calls) (d : Around) (u : List Note) → AllFine (notes_c r d u) ↔ (EverywhereC Limited r d × AllFine u)
  fine-C done d u = (λ h. (tt, h), λ h. h.1)
  fine-C (call m a) d u =
      let A = fine-A a (takes (member_of m)) d u in (
        λ h.
            let p = A.0 h.1.1.1 in
            (((((call-fine (is_unknown (member_of m))).0 h.1.0, p.0), (deep-fine d).0 h.1.1.0), p.1), p.2),
        λ h. (refl, ((call-fine (is_unknown (member_of m))).1 h.0.0.0.0, ((deep-fine d).1 h.0.0.1, A.1 (h.0.0.0.1, h.0.1, h.1)))),
      )

  fine-A : (a : Arguments) (k : ℕ) (d : Around) (u : List Note) → AllFine (notes_a a k d u) ↔ ((given_a a ≡ k) × EverywhereA Limited a d × AllFine u)
  fine-A (none r) k d u = (
    λ h. let q = (fine-C r d u).0 h.1 in ((none_left k).0 h.0, q.0, q.1),
    λ h. ((none_left k).1 h.0, (fine-C r d u).1 (h.1, h.2)),
  )
  fine-A (first e x) k d u =
      let A = fine-E e (eqb k 0) (opened d) (notes_m x (k - 1) d u) in
      let B = fine-M x (k - 1) d u in (
        λ h.
            let p = A.0 h in
            let q = B.0 p.2 in
            let l = (some_left k).0 p.0 in
            let n = q.0 in
            (omega arith, (p.1, q.1), q.2),
        λ h. let n = h.0 in A.1 ((some_left k).1 (omega arith), h.1.0, B.1 (omega arith, h.1.1, h.2)),
      )

  fine-M : (x : More) (k : ℕ) (d : Around) (u : List Note) → AllFine (notes_m x k d u) ↔ ((given_m x ≡ k) × EverywhereM Limited x d × AllFine u)
  fine-M (last r) k d u = (
    λ h. let q = (fine-C r d u).0 h.1 in ((none_left k).0 h.0, q.0, q.1),
    λ h. ((none_left k).1 h.0, (fine-C r d u).1 (h.1, h.2)),
  )
  fine-M (next e x) k d u =
      let A = fine-E e false (opened d) (notes_m x (k - 1) d u) in
      let B = fine-M x (k - 1) d u in (
        λ h.
            let p = A.0 h.1 in
            let q = B.0 p.2 in
            let l = (some_left k).0 ((call-fine (eqb k 0)).0 h.0) in
            let n = q.0 in
            (omega arith, (p.1, q.1), q.2),
        λ h. let n = h.0 in ((call-fine (eqb k 0)).1 ((some_left k).1 (omega arith)), A.1 (refl, h.1.0, B.1 (omega arith, h.1.1, h.2))),
      )

-- what holds everywhere, with something else that does
module _ (P Q R : Site → Around → Type 0) (f : (s : Site) (d : Around) → P s d → Q s d → R s d) where
  mutual
    pub weave-E : (e : Expression) (d : Around) → EverywhereE P e d → EverywhereE Q e d → EverywhereE R e d
    weave-E (let_in x a b) d p q = (f (a_let x) d p.0 q.0, weave-E a (opened d) p.1 q.1, weave-E b (opened d) p.2 q.2)
    weave-E (lambda x b) d p q = (f (a_lambda x) d p.0 q.0, weave-E b (in_lambda d) p.1 q.1)
    weave-E (name x r) d p q = (f (a_name x) d p.0 q.0, weave-C r d p.1 q.1)
    weave-E (literal z r) d p q = (f (a_number z) d p.0 q.0, weave-C r d p.1 q.1)
    weave-E (bracket e r) d p q = (f a_bracket d p.0 q.0, weave-E e (opened d) p.1 q.1, weave-C r d p.2 q.2)

    weave-C : (r : Calls) (d : Around) → EverywhereC P r d → EverywhereC Q r d → EverywhereC R r d
    weave-C done d p q = tt
    weave-C (call m a) d p q = (f (a_call m (given_a a)) d p.0 q.0, weave-A a d p.1 q.1)

    weave-A : (a : Arguments) (d : Around) → EverywhereA P a d → EverywhereA Q a d → EverywhereA R a d
    weave-A (none r) d p q = weave-C r d p q
    weave-A (first e x) d p q = (weave-E e (opened d) p.0 q.0, weave-M x d p.1 q.1)

    weave-M : (x : More) (d : Around) → EverywhereM P x d → EverywhereM Q x d → EverywhereM R x d
    weave-M (last r) d p q = weave-C r d p q
    weave-M (next e x) d p q = (weave-E e (opened d) p.0 q.0, weave-M x d p.1 q.1)

abbrev pub Both : (P Q : Site → Around → Type 0) → Site → Around → Type 0
Both P Q s d = P s d × Q s d

module _ (e : Expression) where
  pub onward : (P Q : Site → Around → Type 0) → ((s : Site) (d : Around) → P s d → Q s d) → EverywhereE P e outermost → EverywhereE Q e outermost
  onward P Q f h = weave-E P P Q (λ s d p q. f s d p) e outermost h h

  pub both : (P Q : Site → Around → Type 0) → EverywhereE P e outermost → EverywhereE Q e outermost → EverywhereE (Both P Q) e outermost
  both P Q = weave-E P Q (Both P Q) (λ s d p q. (p, q)) e outermost

  -- each limit by itself
  pub keeps-each : KeepsLimits e → KeepsEach e
  keeps-each h =
      record {
        lambdas = onward Limited FewLambdas lambdas h.sites;
        names = onward Limited ShortNames names h.sites;
        data_free = onward Limited DataUnbound data_free h.sites;
        numbers = onward Limited SmallNumbers numbers h.sites;
        members = onward Limited RightCalls members h.sites;
      }
    where
      lambdas : (s : Site) (d : Around) → Limited s d → FewLambdas s d
      lambdas (a_let x) d h = tt
      lambdas (a_lambda x) d h = h.0.0
      lambdas a_bracket d h = tt
      lambdas (a_name x) d h = tt
      lambdas (a_number z) d h = tt
      lambdas (a_call m n) d h = tt

      names : (s : Site) (d : Around) → Limited s d → ShortNames s d
      names (a_let x) d h = h.1.0
      names (a_lambda x) d h = h.1.0
      names a_bracket d h = tt
      names (a_name x) d h = h
      names (a_number z) d h = tt
      names (a_call m n) d h = tt

      data_free : (s : Site) (d : Around) → Limited s d → DataUnbound s d
      data_free (a_let x) d h = h.1.1
      data_free (a_lambda x) d h = h.1.1
      data_free a_bracket d h = tt
      data_free (a_name x) d h = tt
      data_free (a_number z) d h = tt
      data_free (a_call m n) d h = tt

      numbers : (s : Site) (d : Around) → Limited s d → SmallNumbers s d
      numbers (a_let x) d h = tt
      numbers (a_lambda x) d h = tt
      numbers a_bracket d h = tt
      numbers (a_name x) d h = tt
      numbers (a_number z) d h = h
      numbers (a_call m n) d h = tt

      members : (s : Site) (d : Around) → Limited s d → RightCalls s d
      members (a_let x) d h = tt
      members (a_lambda x) d h = tt
      members a_bracket d h = tt
      members (a_name x) d h = tt
      members (a_number z) d h = tt
      members (a_call m n) d h = h.0

  pub limits-kept : Clean (faults_of e) ↔ KeepsLimits e
  unfolding parts_in
  limits-kept =
      let p = parts-E e false outermost [] in
      Iff.trans (clean-fine (notes_e e false outermost []) 0 (omega arith)) (
        λ h. let l = h.1 in record { sites = ((fine-E e false outermost []).0 h.0).1; parts = omega arith },
        λ h. let l = h.parts in ((fine-E e false outermost []).1 (refl, h.sites, tt), omega arith),
      )
