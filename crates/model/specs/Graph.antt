-- A table of nodes, each with the numbers of its dependencies, stands for a list of forms: finding or appending a node is inserting its form.
-- In this crate that dependencies have lower numbers is used here, in Binder and in Sweep; other crates take it from `Placed` `lower`, and from
-- the table's `first-low` and `second-low`. Assumes nothing.
use Rattle.std.specs.Prelude.{◌≡◌, Bool, true, cond, ℕ, suc, ◌<◌, eqb, length, get_or}
use Rattle.std.proofs.lemmas.Bool.{false≢true}
use Rattle.std.proofs.Math.Path.{refl, sym}
use Rattle.std.proofs.Common.{ap, ◌∙◌, subst, ⊎_elim, arith}
use mathlib.Core.List.{List, [], ◌∷◌, ◌++◌, append-nil, append_assoc}
use Rattle.std.proofs.Math.Option.{Option, none, some}
use Rattle.std.proofs.Math.ListN.{get_elem?, get_or-append}
use Rattle.language.specs.Cases.{split}
use Rattle.model.specs.Lists.{member, index, insert, Distinct}
use Rattle.model.specs.Language.{Language}
use Rattle.model.specs.ListLaws.{nth-below, nth-has, nth-front, nth_seam, old_or_last, getD-nth, length-snoc, Equality, member-nth, nth-index, index-nth, index-last}
use Rattle.model.specs.Laws.{Tests}
use Rattle.model.specs.Decoding.{decode_from}

-- the number j is one of the links
abbrev pub among : ℕ → List ℕ → Bool
among j = member eqb j

-- What a table keeps of an entry: its links are its dependencies' numbers, and with their forms they build its form.
pub record Graph (L : Language) : Type 1 where
  pub Node : Type 0
  -- nodes as they stand in tables
  pub Fine : Node → Type 0
  pub same : Node → Node → Bool
  pub links : Node → List ℕ
  pub build : Node → (ℕ → L.Form) → L.Form
  -- what a link past the table stands for
  pub nowhere : L.Form

pub record GraphLaws (L : Language) (G : Graph L) : Type 0 where
  pub equality : Equality G.same
  -- a form depends on its links' forms alone
  pub agree : (n : G.Node) (φ ψ : ℕ → L.Form) → ((j : ℕ) → among j (G.links n) ≡ true → φ j ≡ ψ j) → G.build n φ ≡ G.build n ψ
  -- where links with equal forms are equal, nodes with equal forms are equal
  pub one : (n m : G.Node) (φ : ℕ → L.Form) → G.Fine n → G.Fine m → G.build n φ ≡ G.build m φ
      → ((i j : ℕ) → among i (G.links n) ≡ true → among j (G.links m) ≡ true → φ i ≡ φ j → i ≡ j) → n ≡ m
  -- the dependencies are the links' forms
  pub each : (n : G.Node) (φ : ℕ → L.Form) (d : L.Form) → G.Fine n → L.dependency d (G.build n φ) ≡ true
      → (j : ℕ) × (among j (G.links n) ≡ true) × (φ j ≡ d)
  pub only : (n : G.Node) (φ : ℕ → L.Form) (j : ℕ) → G.Fine n → among j (G.links n) ≡ true → L.dependency (φ j) (G.build n φ) ≡ true

module _ (L : Language) (G : Graph L) where
  open L use {Form}
  open G use {Node, links, build}

  abbrev pub form_at : List Form → ℕ → Form
  form_at fs j = get_or fs j G.nowhere

  -- a node that can have number i
  pub record Placed (i : ℕ) (n : Node) : Type 0 where
    pub fine : G.Fine n
    pub lower : (j : ℕ) → among j (links n) ≡ true → j < i

  -- the table ns stands for the forms fs
  pub record Stands (ns : List Node) (fs : List Form) : Type 0 where
    pub size : length ns ≡ length fs
    pub placed : (i : ℕ) (n : Node) → get_elem? ns i ≡ some n → Placed i n
    pub form : (i : ℕ) (n : Node) → get_elem? ns i ≡ some n → get_elem? fs i ≡ some (build n (form_at fs))

  -- the forms of a table, from the first node on
  abbrev pub decode : List Form → List Node → List Form
  decode = decode_from build G.nowhere

  pub decode-snoc : (fs : List Form) (ns : List Node) (n : Node) → decode fs (ns ++ (n ∷ [])) ≡ decode fs ns ++ (build n (form_at (decode fs ns)) ∷ [])
  unfolding decode_from
  decode-snoc fs [] n = refl
  decode-snoc fs (m ∷ ns) n = decode-snoc (fs ++ (build m (form_at fs) ∷ [])) ns n

  abbrev pub AllPlaced : ℕ → List Node → Type 0
  AllPlaced i [] = Unit {0}
  AllPlaced i (n ∷ ns) = Placed i n × AllPlaced (suc i) ns

  -- the links of a number, none where there is no node
  abbrev pub links_of : Option Node → List ℕ
  links_of none = []
  links_of (some n) = links n

  abbrev pub links_at : List Node → ℕ → List ℕ
  links_at ns i = links_of (get_elem? ns i)

  module _ (B : GraphLaws L G) where
    -- A node appended, its form appended.
    module _ (ns : List Node) (fs : List Form) (st : Stands ns fs) (n : Node) (p : Placed (length ns) n) where
      abbrev new : List Form
      new = fs ++ (build n (form_at fs) ∷ [])

      build-front : (m : Node) → ((j : ℕ) → among j (links m) ≡ true → j < length fs) → build m (form_at fs) ≡ build m (form_at new)
      build-front m h = B.agree m (form_at fs) (form_at new) (λ j q. sym (get_or-append fs (build n (form_at fs) ∷ []) G.nowhere j (h j q)))

      stands-snoc : Stands (ns ++ (n ∷ [])) new
      stands-snoc =
          record {
            size = length-snoc ns n ∙ ap suc st.size ∙ sym (length-snoc fs (build n (form_at fs)));
            placed = λ i m e. ⊎_elim (λ o. st.placed i m o.1) (λ o. last-placed i m o.0 o.1) (old_or_last ns n i m e);
            form = λ i m e. ⊎_elim (λ o. old-form i m o.0 o.1) (λ o. last-form i m o.0 o.1) (old_or_last ns n i m e);
          }
        where
          last-placed : (i : ℕ) (m : Node) → i ≡ length ns → n ≡ m → Placed i m
          last-placed i m q e = subst (λ (x : Node). Placed i x) e (rw q p)

          old-form : (i : ℕ) (m : Node) → i < length ns → get_elem? ns i ≡ some m → get_elem? new i ≡ some (build m (form_at new))
          old-form i m l e =
              let z = st.size in
              nth-front fs (build n (form_at fs) ∷ []) i (omega arith) ∙ st.form i m e
              ∙ ap some (build-front m (λ j h. let u = (st.placed i m e).lower j h in omega arith))

          last-form : (i : ℕ) (m : Node) → i ≡ length ns → n ≡ m → get_elem? new i ≡ some (build m (form_at new))
          last-form i m q e =
              let z = st.size in
              let last : i ≡ length fs = omega arith in
              ap (get_elem? new) last ∙ nth_seam fs (build n (form_at fs)) []
              ∙ ap some (build-front n (λ j h. let u = p.lower j h in omega arith))
              ∙ ap (λ (x : Node). some (build x (form_at new))) e

    decode-stands : (pre : List Node) (fs : List Form) (ns : List Node) → Stands pre fs → AllPlaced (length pre) ns
        → Stands (pre ++ ns) (decode fs ns)
    unfolding decode_from
    decode-stands pre fs [] st b = rw (append-nil pre) st
    decode-stands pre fs (n ∷ ns) st b =
        let z = sym (length-snoc pre n) in
        rw (append_assoc pre (n ∷ []) ns) at
        (decode-stands (pre ++ (n ∷ [])) (fs ++ (build n (form_at fs) ∷ [])) ns (stands-snoc pre fs st n b.0) (rw z at b.1))

    -- a table whose links go down stands for the forms that it decodes to
    pub decodes : (ns : List Node) → AllPlaced 0 ns → Stands ns (decode [] ns)
    decodes ns b = decode-stands [] [] ns empty b
      where
        never : {A : Type 0} (i : ℕ) (n : Node) → get_elem? [] i ≡ some n → A
        never i n e = let l = nth-below [] i n e in absurd (omega arith)

        empty : Stands [] []
        empty = record { size = refl; placed = λ i n e. never i n e; form = λ i n e. never i n e }

    module _ (T : Tests L) (ns : List Node) (fs : List Form) (st : Stands ns fs) (d : Distinct L.same fs) (n : Node) (p : Placed (length ns) n) where
      abbrev form : Form
      form = build n (form_at fs)

      -- equal forms, equal numbers
      apart : (i j : ℕ) → i < length fs → j < length fs → form_at fs i ≡ form_at fs j → i ≡ j
      apart i j hi hj e =
          let a = nth-has fs i hi in
          let b = nth-has fs j hj in
          let q : a.0 ≡ b.0 = sym (getD-nth fs i a.0 G.nowhere a.1) ∙ e ∙ getD-nth fs j b.0 G.nowhere b.1 in
          sym (index-nth T.equality fs d i a.0 a.1) ∙ ap (λ (f : Form). index L.same f fs) q ∙ index-nth T.equality fs d j b.0 b.1

      found : member G.same n ns ≡ true → get_elem? fs (index G.same n ns) ≡ some form
      found q = st.form (index G.same n ns) n (nth-index B.equality n ns q)

      back : member L.same form fs ≡ true → member G.same n ns ≡ true
      back q =
          let i = index L.same form fs in
          let e : get_elem? fs i ≡ some form = nth-index T.equality form fs q in
          let l = nth-below fs i form e in
          let z = st.size in
          let m = nth-has ns i (omega arith) in
          let g = st.form i m.0 m.1 in
          let at = st.placed i m.0 m.1 in
          let same-form : build m.0 (form_at fs) ≡ form = (let y : some (build m.0 (form_at fs)) ≡ some form = sym g ∙ e in cc) in
          let same-node : m.0 ≡ n =
          B.one m.0 n (form_at fs) at.fine p.fine same-form
          (λ x y hx hy. apart x y (let u = at.lower x hx in omega arith) (let u = p.lower y hy in omega arith)) in
          member-nth B.equality ns i n (m.1 ∙ ap some same-node)

      -- the node is in the table where its form is among the forms
      same-held : member G.same n ns ≡ member L.same form fs
      same-held =
          split (member G.same n ns)
          (λ q. rw q (sym (member-nth T.equality fs (index G.same n ns) form (found q))))
          (λ q. rw q (sym (split (member L.same form fs) (λ u. absurd (false≢true (sym q ∙ back u))) (λ u. u))))

      -- finding or appending the node is inserting its form
      pub bind-stands : Stands (cond (member G.same n ns) ns (ns ++ (n ∷ []))) (insert L.same form fs)
      unfolding insert
      bind-stands =
          rw (← same-held)
          (split (member G.same n ns) (λ q. rw q st) (λ q. rw q (stands-snoc ns fs st n p)))

      pub bind-number : index L.same form (insert L.same form fs) ≡ cond (member G.same n ns) (index G.same n ns) (length ns)
      unfolding insert
      bind-number =
          split (member G.same n ns)
          (λ q. rw (sym same-held ∙ q, q) (index-nth T.equality fs d (index G.same n ns) form (found q)))
          (λ q. rw (sym same-held ∙ q, q) (index-last T.equality form fs (sym same-held ∙ q) ∙ sym st.size))
