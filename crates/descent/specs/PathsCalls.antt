-- What each way through the calls behind an atom and their arguments gives: a rule a path, as in Paths. Assumes nothing.
use Rattle.std.specs.Prelude.{◌≡◌, true, false, ℕ, suc, ◌+◌, ◌≤◌, eqb, length}
use Rattle.std.proofs.Math.Path.{refl}
use Rattle.std.proofs.Common.{sym, ap, subst, ◌∙◌, arith, lit<}
use borrow.Author.Tests.{eqb-true}
use Rattle.grammar.specs.Tokens.{when}
use Rattle.descent.specs.Cursor.{Cursor, head_kind, is_at, dot_kind, shut_kind, comma_kind}
use Rattle.descent.specs.Cursor.{at_comma, pass, refuse, judge, call_head}
use Rattle.descent.specs.Descent.{State, moved, then, Call, new_call, first_given, next_given, Mode, in_expression, in_calls, in_arguments, in_more}
use Rattle.descent.specs.Descent.{read_shut, read_calls, read_arguments, read_more, step, run}
use Rattle.descent.specs.Moves.{behind-some, moved-judge, moved-pass, moved_call}
use Rattle.descent.specs.Preserved.{Preserved, kept-shut}
use Rattle.descent.specs.Paths.{then-stop, then-go, less-moved, Reads, reads-step, less-read}

module _ (end : ℕ) where
  module _ (marks depth : ℕ) (s : State) where
    -- the calls behind an atom
    is_call : (rd : Mode → State → State) → is_at dot_kind s.cursor.rest ≡ true
        → step end rd (in_calls marks depth) s ≡ then (moved s (call_head end marks s.cursor)) (λ h. rd (in_arguments (new_call s.cursor h.cursor) marks depth) h)
    unfolding step read_calls when
    is_call rd b = rw b refl

    pub calls-over : is_at dot_kind s.cursor.rest ≡ false → Reads end (in_calls marks depth) s s
    unfolding step read_calls when
    calls-over b = reads-step end (λ f l. rw b refl)

    module _ (c : Cursor) (b : is_at dot_kind s.cursor.rest ≡ true) (e : c ≡ call_head end marks s.cursor) where
      pub call-head-refused : eqb c.number 0 ≡ false → Reads end (in_calls marks depth) s (moved s c)
      call-head-refused z = reads-step end (λ f l. is_call (run end f) b ∙ then-stop _ (ap (moved s) (sym e)) z)

      pub less-call : eqb c.number 0 ≡ true → length c.rest + 3 ≤ length s.cursor.rest
      less-call z = less-moved 3 1 s.cursor c (rw e (moved_call end marks s.cursor (behind-some dot_kind s.cursor.rest (lit< tt) b))) z

      pub call-read : {r : State} → eqb c.number 0 ≡ true → Reads end (in_arguments (new_call s.cursor c) marks depth) (moved s c) r
          → Reads end (in_calls marks depth) s r
      call-read z q = reads-step end (λ f l. let h = less-call z in is_call (run end f) b ∙ then-go _ (ap (moved s) (sym e)) z (q.same f (omega arith)))

    -- a call that is over, behind its ( or behind an argument
    pub less-shut : {a : State} (k : Call) → is_at shut_kind s.cursor.rest ≡ true → a ≡ read_shut end k s → eqb a.cursor.number 0 ≡ true
        → length a.cursor.rest + 1 ≤ length s.cursor.rest
    less-shut {a} k b e z = ((subst (λ (x : State). Preserved depth 1 0 1 s x) (sym e) (kept-shut end depth s k b)).went (eqb-true a.cursor.number 0 z)).0

    module _ (k : Call) where
      abbrev A : Mode
      A = in_arguments k marks depth

      abbrev M : Mode
      M = in_more k marks depth

      is_none : (rd : Mode → State → State) → is_at shut_kind s.cursor.rest ≡ true → step end rd A s ≡ then (read_shut end k s) (λ a. rd (in_calls marks depth) a)
      unfolding step read_arguments when
      is_none rd b = rw b refl

      pub none-refused : {a : State} → is_at shut_kind s.cursor.rest ≡ true → a ≡ read_shut end k s → eqb a.cursor.number 0 ≡ false → Reads end A s a
      none-refused b e z = reads-step end (λ f l. is_none (run end f) b ∙ then-stop _ (sym e) z)

      pub none_read : {a r : State} → is_at shut_kind s.cursor.rest ≡ true → a ≡ read_shut end k s → eqb a.cursor.number 0 ≡ true
          → Reads end (in_calls marks depth) a r → Reads end A s r
      none_read b e z q = reads-step end (λ f l. let h = less-shut k b e z in is_none (run end f) b ∙ then-go _ (sym e) z (q.same f (omega arith)))

      -- the first argument
      abbrev argument : Mode
      argument = in_expression (eqb k.takes 0) (suc marks) depth

      is-first : (rd : Mode → State → State) → is_at shut_kind s.cursor.rest ≡ false
          → step end rd A s ≡ then (rd argument s) (λ a. rd (in_more (first_given a.cursor.root k) marks depth) a)
      unfolding step read_arguments when
      is-first rd b = rw b refl

      pub first-refused : {a : State} → is_at shut_kind s.cursor.rest ≡ false → Reads end argument s a → eqb a.cursor.number 0 ≡ false → Reads end A s a
      first-refused b x z = reads-step end (λ f l. is-first (run end f) b ∙ then-stop _ (x.same f (omega arith)) z)

      pub first_read : {a r : State} → is_at shut_kind s.cursor.rest ≡ false → Reads end argument s a → eqb a.cursor.number 0 ≡ true
          → Reads end (in_more (first_given a.cursor.root k) marks depth) a r → Reads end A s r
      first_read b x z q = reads-step end (λ f l. let h = less-read end x z in is-first (run end f) b ∙ then-go _ (x.same f (omega arith)) z (q.same f (omega arith)))

      -- behind an argument
      is_last : (rd : Mode → State → State) → is_at shut_kind s.cursor.rest ≡ true → step end rd M s ≡ then (read_shut end k s) (λ a. rd (in_calls marks depth) a)
      unfolding step read_more when
      is_last rd b = rw b refl

      pub last-refused : {a : State} → is_at shut_kind s.cursor.rest ≡ true → a ≡ read_shut end k s → eqb a.cursor.number 0 ≡ false → Reads end M s a
      last-refused b e z = reads-step end (λ f l. is_last (run end f) b ∙ then-stop _ (sym e) z)

      pub last-read : {a r : State} → is_at shut_kind s.cursor.rest ≡ true → a ≡ read_shut end k s → eqb a.cursor.number 0 ≡ true
          → Reads end (in_calls marks depth) a r → Reads end M s r
      last-read b e z q = reads-step end (λ f l. let h = less-shut k b e z in is_last (run end f) b ∙ then-go _ (sym e) z (q.same f (omega arith)))

      pub more-refused : is_at shut_kind s.cursor.rest ≡ false → is_at comma_kind s.cursor.rest ≡ false → Reads end M s (moved s (refuse end 5 s.cursor))
      unfolding step read_more when
      more-refused a b = reads-step end (λ f l. rw (a, b) refl)

      abbrev inner : Mode
      inner = in_expression false (suc marks) depth

      is-next : (rd : Mode → State → State) → is_at comma_kind s.cursor.rest ≡ true
          → step end rd M s ≡ then (moved s (judge end (at_comma k.takes) s.cursor (λ _. pass s.cursor))) (λ h. then (rd inner h) (λ a. rd (in_more (next_given k) marks depth) a))
      unfolding step read_more when
      is-next rd b = let j = eqb-true (head_kind s.cursor.rest) comma_kind b in rw j refl

      module _ (c : Cursor) (b : is_at comma_kind s.cursor.rest ≡ true) (e : c ≡ judge end (at_comma k.takes) s.cursor (λ _. pass s.cursor)) where
        pub comma-refused : eqb c.number 0 ≡ false → Reads end M s (moved s c)
        comma-refused z = reads-step end (λ f l. is-next (run end f) b ∙ then-stop _ (ap (moved s) (sym e)) z)

        module _ (z : eqb c.number 0 ≡ true) where
          pub less-comma : length c.rest + 1 ≤ length s.cursor.rest
          less-comma = less-moved 1 0 s.cursor c (rw e (moved-judge end (at_comma k.takes) 1 0 s.cursor _
              (λ _. moved-pass end s.cursor (behind-some comma_kind s.cursor.rest (lit< tt) b)))) z

          pub next-refused : {v : State} → Reads end inner (moved s c) v → eqb v.cursor.number 0 ≡ false → Reads end M s v
          next-refused x y = reads-step end (λ f l. let h = less-comma in is-next (run end f) b ∙ then-go _ (ap (moved s) (sym e)) z (then-stop _ (x.same f (omega arith)) y))

          pub next-read : {v r : State} → Reads end inner (moved s c) v → eqb v.cursor.number 0 ≡ true → Reads end (in_more (next_given k) marks depth) v r
              → Reads end M s r
          next-read x y q =
              reads-step end (λ f l.
              let h = less-comma in
              let j = less-read end x y in
              is-next (run end f) b ∙ then-go _ (ap (moved s) (sym e)) z (then-go _ (x.same f (omega arith)) y (q.same f (omega arith))))
