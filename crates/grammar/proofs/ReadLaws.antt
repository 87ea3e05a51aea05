-- What the machine reads from any state: the trees that spell the tokens and keep the limits; else it stops at the first token
-- with which no tree goes on, or that is at fault. And the trees of a state are known by their tokens.
-- Assumes nothing.
use Rattle.std.specs.Prelude.{◌≡◌, length, take, get_or}
use Rattle.std.proofs.Math.Path.{refl, sym, ap}
use Rattle.std.proofs.Common.{◌∙◌, arith}
use mathlib.Core.List.{List, [], ◌∷◌}
use Prim.Native.Nat.{ℕ, zero, suc, ◌≤◌}
use Rattle.grammar.specs.Tokens.{Token}
use Rattle.grammar.specs.Faults.{Note, fault, counted, faults, Clean}
use Rattle.grammar.specs.Machine.{State, Trees, spell, notes, Step, stop, go, step, End, too_early, finished, finish, Answer, whole, stopped, further, ended, unless, judge, read_from}
use Rattle.grammar.proofs.MachineLaws.{From, AtEnd, step-makes, end-makes, sample, no-cons}

pub no_whole : {A : Type 0} {a : A} {n j : ℕ} → stopped n j ≡ whole a → ⊥
no_whole h = let z : ◌≡◌ {A = ℕ} 0 1 = cc in omega arith

further-whole : {A B : Type 0} (f : A → B) (r : Answer A) (b : B) → further f r ≡ whole b → (a : A) × (r ≡ whole a) × (f a ≡ b)
unfolding further
further-whole f (whole a) b h = (a, refl, cc)
further-whole f (stopped n j) b h = absurd (no_whole h)

further-stopped : {A B : Type 0} (f : A → B) (r : Answer A) (n j : ℕ) → further f r ≡ stopped n j → (i : ℕ) × (r ≡ stopped n i) × (suc i ≡ j)
unfolding further
further-stopped f (whole a) n j h = absurd (no_whole (sym h))
further-stopped f (stopped m i) n j h = let e : m ≡ n = cc in (i, rw e refl, cc)

unless-whole : {A : Type 0} (n : ℕ) (r : Unit {0} → Answer A) (a : A) → unless n r ≡ whole a → (n ≡ 0) × (r tt ≡ whole a)
unless-whole zero r a h = (refl, h)
unless-whole (suc n) r a h = absurd (no_whole h)

-- the trees spell the tokens and, behind c parts, keep the limits
pub record Reads (s : State) (c : ℕ) (ts : List Token) (q : Trees s) : Type 0 where
  pub spelled : spell s q ≡ ts
  pub clean : Clean (faults c (notes s q))

-- soundness
sound-end : (s : State) (c : ℕ) (x : End s) (q : Trees s) → ended x ≡ whole q → Reads s c [] q
unfolding ended faults
sound-end s c too_early q h = absurd (no_whole h)
sound-end s c (finished r p i) q h = let e : r ≡ q = cc in rw (← e) (record { spelled = p; clean = rw i tt })

module _ (s : State) (c : ℕ) (t : Token) (ts : List Token) (k : (b : State) → ℕ → Answer (Trees b)) where
  sound-step : (x : Step s t) → ((b : State) (c' : ℕ) (r : Trees b) → k b c' ≡ whole r → Reads b c' ts r) → (q : Trees s) → judge c x k ≡ whole q → Reads s c (t ∷ ts) q
  unfolding judge faults
  sound-step stop ih q h = absurd (no_whole h)
  sound-step (go n b back p i) ih q h =
      let y = unless-whole (fault c n) (λ _. further back (k b (counted c n))) q h in
      let z = further-whole back (k b (counted c n)) q y.1 in
      let u = ih b (counted c n) z.0 z.1 in
      let e = z.2 in
      rw (← e) (record { spelled = p z.0 ∙ ap (λ v. t ∷ v) u.spelled; clean = rw (i z.0) (y.0, u.clean) })

pub sound : (s : State) (c : ℕ) (ts : List Token) (q : Trees s) → read_from s c ts ≡ whole q → Reads s c ts q
unfolding read_from
sound s c [] q h = sound-end s c (finish s) q h
sound s c (t ∷ ts) q h = sound-step s c t ts (λ b c'. read_from b c' ts) (step s t) (λ b c'. sound b c' ts) q h

-- completeness
complete-end : (s : State) (x : End s) (q : Trees s) → AtEnd x q → ended x ≡ whole q
unfolding ended
complete-end s too_early q f = absurd f
complete-end s (finished r p i) q f = ap whole f

module _ (s : State) (c : ℕ) (t : Token) (ts : List Token) (k : (b : State) → ℕ → Answer (Trees b)) where
  complete-step : (x : Step s t) → ((b : State) (c' : ℕ) (r : Trees b) → Reads b c' ts r → k b c' ≡ whole r)
      → (q : Trees s) → From x q → Reads s c (t ∷ ts) q → judge c x k ≡ whole q
  unfolding judge further faults
  complete-step stop ih q f h = absurd f
  complete-step (go n b back p i) ih q f h =
      let r = f.0 in
      let g = f.1 in
      let w : t ∷ spell b r ≡ t ∷ ts = sym (p r) ∙ ap (spell s) g ∙ h.spelled in
      let u : spell b r ≡ ts = cc in
      let l : Clean (faults c (notes s (back r))) = rw g h.clean in
      let m : (fault c n ≡ 0) × Clean (faults (counted c n) (notes b r)) = rw (i r) at l in
      let z = m.0 in
      rw (z, ih b (counted c n) r (record { spelled = u; clean = m.1 }), g) refl

pub complete : (s : State) (c : ℕ) (ts : List Token) (q : Trees s) → Reads s c ts q → read_from s c ts ≡ whole q
unfolding read_from
complete s c [] q h = complete-end s (finish s) q (end-makes s q h.spelled)
complete s c (t ∷ ts) q h = complete-step s c t ts (λ b c'. read_from b c' ts) (step s t) (λ b c'. complete b c' ts) q (step-makes s q t ts h.spelled) h

-- refusals: the first j tokens of the trees' spelling are those of ts
abbrev pub Agrees : (s : State) → ℕ → List Token → Trees s → Type 0
Agrees s j ts q = take j (spell s q) ≡ take j ts

pub record Refuses (s : State) (c : ℕ) (ts : List Token) (n j : ℕ) : Type 0 where
  pub number : ¬ (n ≡ 0)
  pub inside : j ≤ length ts
  pub before : (q : Trees s) × Agrees s j ts q
  pub beyond : ¬ (n ≡ 5) → (q : Trees s) × Agrees s (suc j) ts q
  pub clear : (q : Trees s) → Agrees s j ts q → Clean (take j (faults c (notes s q)))
  pub fault : (q : Trees s) → Agrees s (suc j) ts q → get_or (faults c (notes s q)) j 0 ≡ n

-- at the first token, or at the end where there is none
module _ (s : State) (c : ℕ) (ts : List Token) (n j : ℕ) where
  refuses-here : ¬ (n ≡ 0) → j ≡ 0 → (¬ (n ≡ 5) → (q : Trees s) × Agrees s 1 ts q)
      → ((q : Trees s) → Agrees s 1 ts q → get_or (faults c (notes s q)) 0 0 ≡ n) → Refuses s c ts n j
  refuses-here z e b f = rw e (record { number = z; inside = omega arith; before = (sample s, refl); beyond = b; clear = λ q m. tt; fault = f })

  -- by 5: no tree goes on
  refuses-five : ◌≡◌ {A = Answer (Trees s)} (stopped 5 0) (stopped n j) → ((q : Trees s) → ¬ Agrees s 1 ts q) → Refuses s c ts n j
  refuses-five h f =
      let e : n ≡ 5 = cc in
      refuses-here (omega arith) (cc) (λ m. absurd (m e)) (λ q m. absurd (f q m))

nothing-taken : {A : Type 0} (l : List A) → take 1 l ≡ [] → l ≡ []
nothing-taken [] h = refl
nothing-taken (x ∷ l) h = absurd (no-cons (sym h))

first_taken : {A : Type 0} (j : ℕ) (l : List A) (x : A) (xs : List A) → take (suc j) l ≡ x ∷ xs → (r : List A) × (l ≡ x ∷ r)
first_taken j [] x xs h = absurd (no-cons h)
first_taken j (y ∷ l) x xs h = (l, cc)

refuses-end : (s : State) (c : ℕ) (x : End s) → ((q : Trees s) → spell s q ≡ [] → AtEnd x q) → (n j : ℕ) → ended x ≡ stopped n j → Refuses s c [] n j
unfolding ended
refuses-end s c too_early f n j h = refuses-five s c [] n j h (λ q m. f q (nothing-taken (spell s q) m))
refuses-end s c (finished q p i) f n j h = absurd (no_whole (sym h))

module _ (s : State) (c : ℕ) (t : Token) (ts : List Token) where
  -- the trees that begin with the token come from the step
  abbrev Leads : Step s t → Type 0
  Leads x = (q : Trees s) (r : List Token) → spell s q ≡ t ∷ r → From x q

  module _ (a : Note) (b : State) (back : Trees b → Trees s)
      (p : (r : Trees b) → spell s (back r) ≡ t ∷ spell b r) (i : (r : Trees b) → notes s (back r) ≡ a ∷ notes b r) (lead : Leads (go a b back p i)) where
    -- what agrees with the tokens comes from what agrees with those behind the first
    behind : (j : ℕ) (q : Trees s) → Agrees s (suc j) (t ∷ ts) q → (r : Trees b) × (back r ≡ q) × Agrees b j ts r
    behind j q m =
        let z = first_taken j (spell s q) t (take j ts) m in
        let f = lead q z.0 z.1 in
        let e : t ∷ take j (spell b f.0) ≡ t ∷ take j ts = ap (take (suc j)) (sym (p f.0) ∙ ap (spell s) f.1) ∙ m in
        (f.0, f.1, cc)

    ahead : (j : ℕ) → (r : Trees b) × Agrees b j ts r → (q : Trees s) × Agrees s (suc j) (t ∷ ts) q
    ahead j z = (back z.0, ap (take (suc j)) (p z.0) ∙ ap (λ u. t ∷ u) z.1)

    refuses-behind : fault c a ≡ 0 → (n j : ℕ) → Refuses b (counted c a) ts n j → Refuses s c (t ∷ ts) n (suc j)
    unfolding faults
    refuses-behind z n j v = record {
      number = v.number;
      inside = let l = v.inside in omega arith;
      before = ahead j v.before;
      beyond = λ m. ahead (suc j) (v.beyond m);
      clear = λ q m. let f = behind j q m in let e = f.1 in rw (← e, i f.0) (z, v.clear f.0 f.2);
      fault = λ q m. let f = behind (suc j) q m in let e = f.1 in rw (← e, i f.0) (v.fault f.0 f.2);
    }

    refuses-go : (k : Answer (Trees b)) → ((n j : ℕ) → k ≡ stopped n j → Refuses b (counted c a) ts n j) → (f : ℕ) → fault c a ≡ f → (n j : ℕ)
        → unless f (λ _. further back k) ≡ stopped n j → Refuses s c (t ∷ ts) n j
    unfolding faults
    refuses-go k ih zero e n j h =
        let z = further-stopped back k n j h in
        let g = z.2 in
        rw (← g) (refuses-behind e n z.0 (ih n z.0 z.1))
    refuses-go k ih (suc f) e n j h =
        let g : suc f ≡ n = cc in
        refuses-here s c (t ∷ ts) n j (omega arith) (cc) (λ m. ahead 0 (sample b, refl))
        (λ q m. let y = behind 0 q m in let d = y.1 in rw (← d, i y.0) (e ∙ g))

  refuses-step : (k : (b : State) → ℕ → Answer (Trees b)) → ((b : State) (c' n j : ℕ) → k b c' ≡ stopped n j → Refuses b c' ts n j) → (x : Step s t) → Leads x
      → (n j : ℕ) → judge c x k ≡ stopped n j → Refuses s c (t ∷ ts) n j
  unfolding judge
  refuses-step k ih stop f n j h = refuses-five s c (t ∷ ts) n j h (λ q m. let z = first_taken 0 (spell s q) t [] m in f q z.0 z.1)
  refuses-step k ih (go a b back p i) f n j h = refuses-go a b back p i f (k b (counted c a)) (ih b (counted c a)) (fault c a) refl n j h

pub refuses : (s : State) (c : ℕ) (ts : List Token) (n j : ℕ) → read_from s c ts ≡ stopped n j → Refuses s c ts n j
unfolding read_from
refuses s c [] n j h = refuses-end s c (finish s) (end-makes s) n j h
refuses s c (t ∷ ts) n j h = refuses-step s c t ts (λ b c'. read_from b c' ts) (λ b c'. refuses b c' ts) (step s t) (λ q r. step-makes s q t r) n j h

-- two trees of one spelling are one
same_end : (s : State) (x : End s) (q q' : Trees s) → AtEnd x q → AtEnd x q' → q ≡ q'
same_end s too_early q q' f f' = absurd f
same_end s (finished r p i) q q' f f' = sym f ∙ f'

same_step : (s : State) (t : Token) (ts : List Token) (x : Step s t) → ((b : State) (r r' : Trees b) → spell b r ≡ ts → spell b r' ≡ ts → r ≡ r') → (q q' : Trees s)
    → From x q → From x q' → spell s q ≡ t ∷ ts → spell s q' ≡ t ∷ ts → q ≡ q'
same_step s t ts stop ih q q' f f' h h' = absurd f
same_step s t ts (go n b back p i) ih q q' f f' h h' = sym f.1 ∙ ap back (ih b f.0 f'.0 (rest f.0 q f.1 h) (rest f'.0 q' f'.1 h')) ∙ f'.1
  where
    rest : (r : Trees b) (q : Trees s) → back r ≡ q → spell s q ≡ t ∷ ts → spell b r ≡ ts
    rest r q g h = let e : t ∷ spell b r ≡ t ∷ ts = sym (p r) ∙ ap (spell s) g ∙ h in cc

pub same-trees : (s : State) (ts : List Token) (q q' : Trees s) → spell s q ≡ ts → spell s q' ≡ ts → q ≡ q'
same-trees s [] q q' h h' = same_end s (finish s) q q' (end-makes s q h) (end-makes s q' h')
same-trees s (t ∷ ts) q q' h h' = same_step s t ts (step s t) (λ b r r'. same-trees b ts r r') q q' (step-makes s q t ts h) (step-makes s q' t ts h') h h'
