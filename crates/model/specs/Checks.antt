-- What refusal 4 tests of a cache, number by number, holds of every table that stands for a state of the model. Assumes nothing.
use Rattle.std.specs.Prelude.{◌≡◌, true}
use Rattle.std.proofs.lemmas.Bool.{false≢true}
use Rattle.std.proofs.Math.Path.{refl, sym, ap, subst}
use Rattle.std.proofs.Common.{◌∙◌, arith}
use mathlib.Core.List.{List, [], ◌∷◌}
use Rattle.std.proofs.Math.Option.{some}
use Prim.Native.Nat.{ℕ, zero, suc}
use Rattle.std.proofs.Math.ListN.{get_elem?}
use Rattle.language.specs.Cases.{split}
use Rattle.model.specs.Language.{Language}
use Rattle.model.specs.ListLaws.{nth-below, nth-has, nth-map, all-nth, index-nth}
use Rattle.model.specs.Model.{Entry, State, forms, marked}
use Rattle.model.specs.Laws.{Laws}
use Rattle.model.specs.Invariant.{Kept, done, done_in, Settled, Invariant}
use Rattle.model.specs.Graph.{among, Graph, GraphLaws, Placed, Stands}
use Rattle.model.specs.Sweep.{linked}

module _ (L : Language) (H : Laws L) where
  open L use {Form, same, dependency}

  -- an entry of form d that is done
  pub record DoneAt (d : Form) (es : List (Entry L)) : Type 0 where
    pub number : ℕ
    pub entry : Entry L
    pub stands : get_elem? es number ≡ some entry
    pub form : entry.form ≡ d
    pub done : done L entry ≡ true

  settled-nth : (pre es all : List (Entry L)) → ((d : Form) → done_in L d pre ≡ true → DoneAt d all)
      → ((i : ℕ) (x : Entry L) → get_elem? es i ≡ some x → (j : ℕ) × (get_elem? all j ≡ some x)) → Settled L pre es
      → (i : ℕ) (e : Entry L) → get_elem? es i ≡ some e → marked L e ≡ true → (d : Form) → dependency d e.form ≡ true → DoneAt d all
  unfolding done_in
  settled-nth pre [] all old new st i e h m d q = absurd (false≢true (cc))
  settled-nth pre (x ∷ xs) all old new st zero e h m d q =
      let z : e ≡ x = cc in
      old d (st.0 (subst (λ (y : Entry L). marked L y ≡ true) z m) d (subst (λ (y : Entry L). dependency d y.form ≡ true) z q))
  settled-nth pre (x ∷ xs) all old new st (suc i) e h m d q =
      settled-nth (x ∷ pre) xs all
      (λ c g.
      split (same x.form c)
      (λ p. let w = new 0 x refl in record { number = w.0; entry = x; stands = w.1; form = H.tests.equality.equal x.form c p; done = rw p at g })
      (λ p. old c (rw p at g)))
      (λ j y g. new (suc j) y g) st.1 i e h m d q

  module _ (G : Graph L) (B : GraphLaws L G) (s : State L) (i : Invariant L H s) (ns : List G.Node) (st : Stands L G ns (forms L s.entries)) where
    -- number p has node n and entry e
    pub record WellFormed (p : ℕ) (n : G.Node) (e : Entry L) : Type 0 where
      -- the node is fine and its links are lower
      pub placed : Placed L G p n
      -- no other number has this node
      pub alone : (q : ℕ) → get_elem? ns q ≡ some n → q ≡ p
      pub proper : H.Proper e.form
      -- a mark is what the form shows, and the links of a marked entry are done
      pub kept : Kept L s.recording e
      pub settled : marked L e ≡ true → (j : ℕ) → among j (G.links n) ≡ true → (x : Entry L) × (get_elem? s.entries j ≡ some x) × (done L x ≡ true)

    form-at : (p : ℕ) (e : Entry L) → get_elem? s.entries p ≡ some e → get_elem? (forms L s.entries) p ≡ some e.form
    form-at p e h = nth-map (λ (y : Entry L). y.form) s.entries p e h

    one_place : (p q : ℕ) (f : Form) → get_elem? (forms L s.entries) p ≡ some f → get_elem? (forms L s.entries) q ≡ some f → p ≡ q
    one_place p q f hp hq =
        sym (index-nth H.tests.equality (forms L s.entries) i.distinct p f hp)
        ∙ index-nth H.tests.equality (forms L s.entries) i.distinct q f hq

    links-done : (p : ℕ) (n : G.Node) (e : Entry L) → get_elem? ns p ≡ some n → get_elem? s.entries p ≡ some e → marked L e ≡ true
        → (j : ℕ) → among j (G.links n) ≡ true → (x : Entry L) × (get_elem? s.entries j ≡ some x) × (done L x ≡ true)
    unfolding done_in
    links-done p n e hn he m j a =
        let less = (st.placed p n hn).lower j a in
        let here = nth-below s.entries p e he in
        let x = nth-has s.entries j (omega arith) in
        let fx = form-at j x.0 x.1 in
        let dep = (linked L G B ns (forms L s.entries) st).only p j e.form x.0.form (form-at p e he) (rw hn a) fx in
        let d =
        settled-nth [] s.entries s.entries (λ c g. absurd (false≢true g)) (λ k y g. (k, g)) i.settled p e he m x.0.form dep in
        let q : d.number ≡ j = one_place d.number j x.0.form (form-at d.number d.entry d.stands ∙ ap some d.form) fx in
        let y : some d.entry ≡ some x.0 = sym d.stands ∙ ap (get_elem? s.entries) q ∙ x.1 in
        let z : d.entry ≡ x.0 = cc in
        (x.0, x.1, subst (λ (w : Entry L). done L w ≡ true) z d.done)

    pub well-formed : (p : ℕ) (n : G.Node) (e : Entry L) → get_elem? ns p ≡ some n → get_elem? s.entries p ≡ some e → WellFormed p n e
    well-formed p n e hn he =
        record {
          placed = st.placed p n hn;
          alone = λ q hq. one_place q p _ (st.form q n hq) (st.form p n hn);
          proper = all-nth H.Proper (forms L s.entries) p e.form i.proper (form-at p e he);
          kept = all-nth (Kept L s.recording) s.entries p e i.kept he;
          settled = links-done p n e hn he;
        }
