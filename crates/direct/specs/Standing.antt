-- Each part of a text that is read has a record that stands for the part's form. Assumes nothing.
use Rattle.std.specs.Prelude.{◌≡◌, refl, true, List, [], ℕ, zero, suc, ◌+◌, ◌-◌, ◌<◌, ltb, length, get_or}
use Rattle.std.proofs.Common.{sym, ap, ◌∙◌, subst, arith, ltb-true, ltb-false, leb→le, get_or-take}
use Rattle.std.proofs.Math.Option.{some}
use Rattle.std.proofs.Math.ListN.{get_elem?}
use Rattle.std.proofs.lemmas.List.{length-map}
use Rattle.language.specs.Cases.{split}
use Rattle.grammar.specs.KeptLimits.{InRange}
use Rattle.grammar.proofs.Theorems.{text-read-plainly}
use Rattle.model.specs.Lists.{All}
use Rattle.model.specs.ListLaws.{nth-has, getD-nth, nth-map, all-nth}
use Rattle.model.specs.Graph.{among, AllPlaced, decodes}
use Rattle.meaning.specs.Forms.{Form, readings}
use Rattle.meaning.specs.Binding.{forms_by_place}
use Rattle.formulas.specs.Formulas.{formulas}
use Rattle.layout.specs.Memory.{Node}
use Rattle.layout.specs.Nodes.{number_of_key, kids}
use Rattle.layout.specs.Numbered.{numbered}
use Rattle.layout.specs.Held.{record_at}
use Rattle.records.specs.Records.{Recorded, records_of}
use Rattle.table.specs.EntryForms.{forms_of}
use Rattle.table.specs.NodeKinds.{Fine, a_number, a_variable, an_unbound, the_readings, a_function, an_ask, a_call, node_form, build-fine}
use Rattle.bridge.specs.Graphs.{nodes, graph-laws, kids-function, kids-ask, kids-call, among_first, among_second}
use Rattle.bridge.specs.Recorded.{form_in, Unfolds, unfolds}
use Rattle.interpreter.specs.Standing.{Stands}
use Rattle.reading.specs.ReadTo.{ReadTo}
use Rattle.direct.specs.Bindable.{Bindable}

-- a number in range has a key of 32 bits
key-low : (key : ℕ) → InRange (number_of_key key) → key < 4294967296
key-low key h =
    split (ltb key 2147483648) (λ e. let l = ltb-true key 2147483648 e in omega arith)
    (λ e. let l = leb→le (key - 2147483648) 2147483647 (rw e at h.1.le) in let m = ltb-false key 2147483648 e in omega arith)

-- record j of those from i on
numbered-nth : (ν : ℕ → Node) (i n j : ℕ) → j < n → get_elem? (numbered ν i n) j ≡ some (ν (i + j))
unfolding numbered
numbered-nth ν i zero j h = absurd (omega arith)
numbered-nth ν i (suc n) zero h = let z : i + 0 ≡ i = omega arith in rw z
numbered-nth ν i (suc n) (suc j) h = let z : i + suc j ≡ suc i + j = omega arith in rw z (numbered-nth ν (suc i) n j (omega arith))

-- a record of each kind, where those that it links to come before it and stand for their forms
stands-kind : (ν : ℕ → Node) (i : ℕ) (φ : ℕ → Form) {n : Node} (k : Fine n) → ν i ≡ n → Bindable (node_form k φ)
    → ((j : ℕ) → among j (kids n) ≡ true → (j < i) × (Bindable (φ j) → Stands ν j (φ j))) → Stands ν i (node_form k φ)
stands-kind ν i φ (a_number key) e b h = Stands.a_number i key e (key-low key b)
stands-kind ν i φ (a_variable x k l) e b h = Stands.a_variable i x k e l
stands-kind ν i φ (an_unbound x) e b h = Stands.an_unbound i x e
stands-kind ν i φ the_readings e b h = Stands.the_readings i e
stands-kind ν i φ (a_function x f k l) e b h =
    let q = h f (rw (kids-function x f k) (among_first f [])) in Stands.a_function i x f k (φ f) e l q.0 (q.1 b.2)
stands-kind ν i φ (an_ask m f z) e b h = let q = h f (rw (kids-ask m f z) (among_first f [])) in Stands.an_ask i m f (φ f) e z q.0 (q.1 b)
stands-kind ν i φ (a_call m f a z) e b h =
    let q = h f (rw (kids-call m f a z) (among_first f _)) in
    let w = h a (rw (kids-call m f a z) (among_second f a)) in
    Stands.a_call i m f a (φ f) (φ a) e z q.0 (q.1 b.0) w.0 (w.1 b.1)

-- the records of a text, each of which links to earlier ones
module _ (ν : ℕ → Node) (size : ℕ) (placed : AllPlaced formulas nodes 0 (numbered ν 0 size)) where
  abbrev φ : ℕ → Form
  φ = form_in (numbered ν 0 size)

  -- each stands for the form that it unfolds to: by the lower ones
  stands-below : (k j : ℕ) → j < k → j < size → Bindable (φ j) → Stands ν j (φ j)
  stands-below zero j h l b = absurd (omega arith)
  stands-below (suc k) j h l b =
      let table = decodes formulas nodes graph-laws (numbered ν 0 size) placed in
      let z : 0 + j ≡ j = omega arith in
      let at = rw z at (numbered-nth ν 0 size j l) in
      let p = table.placed j (ν j) at in
      let q : φ j ≡ node_form p.fine φ = getD-nth (forms_of (numbered ν 0 size)) j _ readings (table.form j (ν j) at) ∙ build-fine p.fine φ in
      subst (Stands ν j) (sym q)
      (stands-kind ν j φ p.fine refl (subst Bindable q b) (λ i a. let o = p.lower i a in (o, stands-below k i (omega arith) (omega arith))))

-- of a text that is read: as many forms as parts, and for each part its record, which stands for its form
module _ (text : List ℕ) (n size root : ℕ) (R P : List ℕ) (r : ReadTo text n size root R P) where
  abbrev Z : Recorded
  Z = records_of r.expression

  forms : Unfolds r.expression Z
  forms = unfolds r.expression ((text-read-plainly text r.expression).0 r.reads).1

  pub parts_are : n ≡ length (forms_by_place r.expression)
  parts_are = r.parts ∙ sym (length-map Z.places (form_in Z.records)) ∙ ap length forms.places

  module _ (p : ℕ) (h : p < n) where
    place : (j : ℕ) × (get_elem? Z.places p ≡ some j)
    place = let l = r.parts in nth-has Z.places p (omega arith)

    place_is : get_or P p 0 ≡ place.0
    place_is = sym (get_or-take n P p 0 h) ∙ ap (λ (l : List ℕ). get_or l p 0) r.places ∙ getD-nth Z.places p place.0 0 place.1

    place-form : get_elem? (forms_by_place r.expression) p ≡ some (form_in Z.records place.0)
    place-form = ap (λ (fs : List Form). get_elem? fs p) (sym forms.places) ∙ nth-map (form_in Z.records) Z.places p place.0 place.1

    place-low : place.0 < size
    place-low = all-nth (λ (j : ℕ). j < size) Z.places p place.0 r.inside place.1

    pub part-below : get_or P p 0 < size
    part-below = rw place_is place-low

  record-stands : (j : ℕ) → j < size → Bindable (form_in Z.records j) → Stands (record_at R) j (form_in Z.records j)
  record-stands =
      let placed = subst (AllPlaced formulas nodes 0) (sym r.records) forms.placed in
      subst (λ (t : List Node). (j : ℕ) → j < size → Bindable (form_in t j) → Stands (record_at R) j (form_in t j)) r.records
      (λ j. stands-below (record_at R) size placed (suc j) j (omega arith))

  pub stands_at : All Bindable (forms_by_place r.expression) → (p : ℕ) → p < n
      → Stands (record_at R) (get_or P p 0) (get_or (forms_by_place r.expression) p readings)
  stands_at b p h =
      rw (place_is p h, getD-nth (forms_by_place r.expression) p _ readings (place-form p h))
      (record-stands (place p h).0 (place-low p h) (all-nth Bindable (forms_by_place r.expression) p _ b (place-form p h)))
