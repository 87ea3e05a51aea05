-- A preview by numbers, first half: flags spread from number n down to its dependencies mark just what lies at or below n. Assumes nothing.
use Rattle.std.specs.Prelude.{◌≡◌, Bool, false, cond, List, eqb}
use Rattle.std.proofs.lemmas.Bool.{false≢true}
use Rattle.std.proofs.Math.Path.{refl, sym, subst}
use Rattle.std.proofs.Common.{ap, ◌∙◌, ⊎_elim, eqb-true, eq-eqb, ne_eqb}
use Rattle.std.proofs.Math.Bool.{true}
use Rattle.std.proofs.Math.Option.{Option, none, some}
use Prim.Native.Nat.{ℕ, zero, suc, ◌≤◌, ◌<◌}
use native.Mathlib.Omega.{arith}
use Rattle.std.proofs.Math.Decide.{dec_lt}
use Rattle.std.proofs.Math.ListN.{get_elem?}
use Rattle.language.specs.Cases.{split}
use Rattle.model.specs.Lists.{member, Distinct}
use Rattle.model.specs.Language.{Language}
use Rattle.model.specs.ListLaws.{nth-below, nth-has, getD-nth, index-nth}
use Rattle.model.specs.Laws.{Tests}
use Rattle.model.specs.Forms.{reach-down}
use Rattle.model.specs.Graph.{among, Graph, GraphLaws, form_at, Stands, links_of, links_at}

-- where number i is flagged, so are its links
unfoldable pub spread : (ℕ → List ℕ) → ℕ → (ℕ → Bool) → ℕ → Bool
spread links i flag j = cond (flag i) (cond (among j (links i)) true (flag j)) (flag j)

-- from number i - 1 down to 0
unfoldable pub sweep : (ℕ → List ℕ) → ℕ → (ℕ → Bool) → ℕ → Bool
sweep links zero flag = flag
sweep links (suc i) flag = sweep links i (spread links i flag)

-- at first n alone is flagged
abbrev pub flags : (ℕ → List ℕ) → ℕ → ℕ → Bool
flags links n = sweep links (suc n) (λ (j : ℕ). eqb j n)

module _ (links : ℕ → List ℕ) (lower : (i j : ℕ) → among j (links i) ≡ true → j < i) where
  sweep-grows : (i : ℕ) (flag : ℕ → Bool) (j : ℕ) → flag j ≡ true → sweep links i flag j ≡ true
  unfolding sweep spread
  sweep-grows zero flag j h = h
  sweep-grows (suc i) flag j h =
      sweep-grows i (spread links i flag) j
      (split (flag i) (λ p. rw p (split (among j (links i)) (λ q. rw q) (λ q. rw q h))) (λ p. rw p h))

  spread-above : (i : ℕ) (flag : ℕ → Bool) (j : ℕ) → i ≤ j → spread links i flag j ≡ flag j
  unfolding spread
  spread-above i flag j h = split (flag i) (λ p. rw p (split (among j (links i)) (λ q. absurd (let l = lower i j q in omega arith)) (λ q. rw q))) (λ p. rw p)

  sweep-above : (i : ℕ) (flag : ℕ → Bool) (j : ℕ) → i ≤ j → sweep links i flag j ≡ flag j
  unfolding sweep
  sweep-above zero flag j h = refl
  sweep-above (suc i) flag j h = sweep-above i (spread links i flag) j (omega arith) ∙ spread-above i flag j (omega arith)

  sweep-closed : (i : ℕ) (flag : ℕ → Bool) (k j : ℕ) → k < i → sweep links i flag k ≡ true → among j (links k) ≡ true → sweep links i flag j ≡ true
  unfolding sweep spread
  sweep-closed zero flag k j h e a = absurd (omega arith)
  sweep-closed (suc i) flag k j h e a =
      elim (dec_lt k i) [
        | yes less ↦ sweep-closed i (spread links i flag) k j less e a
        | no not ↦
            let q : k ≡ i = omega arith in
            let t : flag i ≡ true =
            sym (sweep-above i (spread links i flag) i (omega arith) ∙ spread-above i flag i (omega arith))
            ∙ subst (λ (x : ℕ). sweep links i (spread links i flag) x ≡ true) q e in
            let b : among j (links i) ≡ true = subst (λ (x : ℕ). among j (links x) ≡ true) q a in
            sweep-grows i (spread links i flag) j (rw (t, b))
      ]

module _ (L : Language) (fs : List L.Form) (links : ℕ → List ℕ) where
  open L use {Form, same, dependency, reach}

  -- the links of a number are its form's dependencies, and lower
  pub record Linked : Type 0 where
    pub lower : (i j : ℕ) → among j (links i) ≡ true → j < i
    pub only : (i j : ℕ) (f d : Form) → get_elem? fs i ≡ some f → among j (links i) ≡ true → get_elem? fs j ≡ some d → dependency d f ≡ true
    pub each : (i : ℕ) (f d : Form) → get_elem? fs i ≡ some f → dependency d f ≡ true → (j : ℕ) × (among j (links i) ≡ true) × (get_elem? fs j ≡ some d)

  module _ (T : Tests L) (linked : Linked) (n : ℕ) (f : Form) (at_n : get_elem? fs n ≡ some f) where
    sweep_sound : (i : ℕ) (flag : ℕ → Bool) → i ≤ suc n → ((j : ℕ) (d : Form) → get_elem? fs j ≡ some d → flag j ≡ true → reach d f ≡ true)
        → (j : ℕ) (d : Form) → get_elem? fs j ≡ some d → sweep links i flag j ≡ true → reach d f ≡ true
    unfolding sweep spread
    sweep_sound zero flag h sound = sound
    sweep_sound (suc i) flag h sound =
        let l = nth-below fs n f at_n in
        sweep_sound i (spread links i flag) (omega arith)
        (λ j d e t.
        split (flag i)
        (λ p. split (among j (links i))
        (λ q. let z = nth-has fs i (omega arith) in reach-down L T d z.0 f (linked.only i j z.0 d z.1 q e) (sound i z.0 z.1 p))
        (λ q. sound j d e (rw (p, q) at t)))
        (λ p. sound j d e (rw p at t)))

    sweep-complete : (fuel k : ℕ) (h g : Form) → k < fuel → k ≤ n → flags links n k ≡ true → get_elem? fs k ≡ some h → reach g h ≡ true
        → (j : ℕ) × (flags links n j ≡ true) × (get_elem? fs j ≡ some g)
    sweep-complete zero k h g l m t e r = absurd (omega arith)
    sweep-complete (suc fuel) k h g l m t e r =
        ⊎_elim (λ q. (k, t, e ∙ ap some (sym q)))
        (λ q.
        let z = linked.each k h q.0 e q.1 in
        let less = linked.lower k z.0 z.1 in
        sweep-complete fuel z.0 q.0 g (omega arith) (omega arith)
        (sweep-closed links linked.lower (suc n) (λ (j : ℕ). eqb j n) k z.0 (omega arith) t z.1) z.2 q.2)
        (T.reach-only g h r)

    -- the flags say what lies at or below number n
    pub swept : Distinct same fs → (i : ℕ) (g : Form) → get_elem? fs i ≡ some g → flags links n i ≡ reach g f
    swept distinct i g e =
        split (reach g f)
        (λ p.
        let top : flags links n n ≡ true = sweep-grows links linked.lower (suc n) (λ (j : ℕ). eqb j n) n (eq-eqb n n refl) in
        let z = sweep-complete (suc n) n f g (omega arith) (omega arith) top at_n p in
        let q : z.0 ≡ i = sym (index-nth T.equality fs distinct z.0 g z.2) ∙ index-nth T.equality fs distinct i g e in
        rw p (subst (λ (x : ℕ). flags links n x ≡ true) q z.1))
        (λ p. rw p (split (flags links n i) (λ t. absurd (false≢true (sym p ∙ sweep_sound (suc n) (λ (j : ℕ). eqb j n) (omega arith) first i g e t))) (λ t. t)))
      where
        first : (j : ℕ) (d : Form) → get_elem? fs j ≡ some d → eqb j n ≡ true → reach d f ≡ true
        first j d e' t =
            let z : get_elem? fs n ≡ some d = subst (λ (x : ℕ). get_elem? fs x ≡ some d) (eqb-true j n t) e' in
            let fd : f ≡ d = cc in
            subst (λ (x : Form). reach x f ≡ true) fd (T.reach-self f)

    -- and flag nothing above it
    pub above : (i : ℕ) → n < i → flags links n i ≡ false
    above i h = sweep-above links linked.lower (suc n) (λ (j : ℕ). eqb j n) i h ∙ ne_eqb i n (λ e. omega arith)

-- a table that stands for the forms has such links
module _ (L : Language) (G : Graph L) (B : GraphLaws L G) (ns : List G.Node) (fs : List L.Form) (st : Stands L G ns fs) where
  open L use {Form, dependency}
  open G use {Node, build}

  pub linked : Linked L fs (links_at L G ns)
  unfolding member
  linked =
      record {
        lower = λ i j h. lower i j (get_elem? ns i) refl h;
        only = λ i j f d e h x. only i j f d e x (get_elem? ns i) refl h;
        each = λ i f d e h. each i f d e h;
      }
    where
      lower : (i j : ℕ) (m : Option Node) → get_elem? ns i ≡ m → among j (links_of L G m) ≡ true → j < i
      lower i j none q h = absurd (false≢true h)
      lower i j (some n) q h = (st.placed i n q).lower j h

      only : (i j : ℕ) (f d : Form) → get_elem? fs i ≡ some f → get_elem? fs j ≡ some d → (m : Option Node) → get_elem? ns i ≡ m
          → among j (links_of L G m) ≡ true → dependency d f ≡ true
      only i j f d e x none q h = absurd (false≢true h)
      only i j f d e x (some n) q h =
          let g = st.form i n q in
          let y : build n (form_at L G fs) ≡ f = cc in
          subst (λ (z : Form). dependency z f ≡ true) (getD-nth fs j d G.nowhere x)
          (subst (λ (z : Form). dependency (form_at L G fs j) z ≡ true) y (B.only n (form_at L G fs) j (st.placed i n q).fine h))

      each : (i : ℕ) (f d : Form) → get_elem? fs i ≡ some f → dependency d f ≡ true
          → (j : ℕ) × (among j (links_at L G ns i) ≡ true) × (get_elem? fs j ≡ some d)
      each i f d e h =
          let l = nth-below fs i f e in
          let z = st.size in
          let m = nth-has ns i (omega arith) in
          let n = m.0 in
          let q : get_elem? ns i ≡ some n = m.1 in
          let y : f ≡ build n (form_at L G fs) = (let u : some f ≡ some (build n (form_at L G fs)) = sym e ∙ st.form i n q in cc) in
          let k = B.each n (form_at L G fs) d (st.placed i n q).fine (subst (λ (x : Form). dependency d x ≡ true) y h) in
          let less = (st.placed i n q).lower k.0 k.1 in
          let w = nth-has fs k.0 (omega arith) in
          (k.0, rw q k.1, w.1 ∙ ap some (sym (getD-nth fs k.0 w.0 G.nowhere w.1) ∙ k.2))

-- what a preview of number n needs, by the table's links
abbrev pub needed : (L : Language) (G : Graph L) → List G.Node → ℕ → ℕ → Bool
needed L G ns n = flags (links_at L G ns) n
