-- The reader's records, with links to earlier records, bound one by one to numbers: the table stands for what the model holds then, and each
-- record has its form's number. Assumes nothing.
use Rattle.std.specs.Prelude.{◌≡◌, cond, ℕ, suc, ◌<◌, length, get_or}
use Rattle.std.proofs.Math.Path.{sym, ap}
use Rattle.std.proofs.Common.{◌∙◌, subst, ⊎_elim, arith}
use Rattle.std.proofs.Math.Bool.{true}
use mathlib.Core.List.{List, [], ◌∷◌, ◌++◌, append-nil, append_assoc}
use Rattle.std.proofs.Math.Option.{some}
use Rattle.std.proofs.Math.ListN.{get_elem?, get_or-append}
use Rattle.std.proofs.lemmas.List.{get_or_at}
use Rattle.model.specs.Lists.{member, index, insert, insert_all, Distinct}
use Rattle.model.specs.Language.{Language}
use Rattle.model.specs.ListLaws.{nth-below, nth-has, old_or_last, getD-nth, length-snoc, member-nth, nth-index, index-nth, insert-has, insert-old, nth-insert, distinct-insert}
use Rattle.model.specs.Laws.{Tests}
use Rattle.model.specs.Graph.{among, Graph, GraphLaws, form_at, Placed, Stands, bind-stands, bind-number}

-- A record: the same as an earlier one, or a node whose links are earlier records.
pub data Record (N : Type 0) : Type 0 where
  again : ℕ → Record N
  fresh : N → Record N

module _ (L : Language) (G : Graph L) where
  open L use {Form}
  open G use {Node, links, build}

  -- a record's form, of the forms of the records before it
  unfoldable pub record_form : List Form → Record Node → Form
  record_form rf (again j) = form_at L G rf j
  record_form rf (fresh n) = build n (form_at L G rf)

  -- the forms of the records, in their order
  unfoldable pub record_forms : List Form → List (Record Node) → List Form
  record_forms rf [] = []
  record_forms rf (x ∷ xs) = record_form rf x ∷ record_forms (rf ++ (record_form rf x ∷ [])) xs

  -- links go to earlier records
  abbrev pub Earlier : ℕ → Record Node → Type 0
  Earlier p (again j) = j < p
  Earlier p (fresh n) = Placed L G p n

  abbrev pub Valid : ℕ → List (Record Node) → Type 0
  Valid p [] = Unit {0}
  Valid p (x ∷ xs) = Earlier p x × Valid (suc p) xs

  -- Binding: a node's links are changed from records to numbers.
  module _ (relink : Node → (ℕ → ℕ) → Node) where
    pub record Relinks : Type 0 where
      pub fine : (n : Node) (ρ : ℕ → ℕ) → G.Fine n → G.Fine (relink n ρ)
      pub form : (n : Node) (ρ : ℕ → ℕ) (φ : ℕ → Form) → G.Fine n → build (relink n ρ) φ ≡ build n (λ (k : ℕ). φ (ρ k))
      pub from : (n : Node) (ρ : ℕ → ℕ) (j : ℕ) → G.Fine n → among j (links (relink n ρ)) ≡ true → (k : ℕ) × (among k (links n) ≡ true) × (ρ k ≡ j)

    -- the table, and the number of each record so far
    pub record Bound : Type 0 where
      pub nodes : List Node
      pub numbers : List ℕ

    abbrev pub number_at : Bound → ℕ → ℕ
    number_at b k = get_or b.numbers k 0

    unfoldable pub bind_one : Bound → Record Node → Bound
    bind_one b (again j) = record { nodes = b.nodes; numbers = b.numbers ++ (number_at b j ∷ []) }
    bind_one b (fresh n) =
        let m : Node = relink n (number_at b) in
        record {
          nodes = cond (member G.same m b.nodes) b.nodes (b.nodes ++ (m ∷ []));
          numbers = b.numbers ++ (cond (member G.same m b.nodes) (index G.same m b.nodes) (length b.nodes) ∷ []);
        }

    unfoldable pub bind_all : Bound → List (Record Node) → Bound
    bind_all b [] = b
    bind_all b (x ∷ xs) = bind_all (bind_one b x) xs

    -- the table stands for the forms fs, and the records so far have the forms rf
    pub record Fits (b : Bound) (rf fs : List Form) : Type 0 where
      pub stands : Stands L G b.nodes fs
      pub distinct : Distinct L.same fs
      pub size : length b.numbers ≡ length rf
      pub numbered : (k : ℕ) (f : Form) → get_elem? rf k ≡ some f → get_elem? fs (number_at b k) ≡ some f

    module _ (B : GraphLaws L G) (T : Tests L) (R : Relinks) where
      -- one more record of form f with number v
      longer : (nodes' : List Node) (b : Bound) (rf fs : List Form) (f : Form) (v : ℕ) → Fits b rf fs → Stands L G nodes' (insert L.same f fs)
          → get_elem? (insert L.same f fs) v ≡ some f
          → Fits (record { nodes = nodes'; numbers = b.numbers ++ (v ∷ []) }) (rf ++ (f ∷ [])) (insert L.same f fs)
      longer nodes' b rf fs f v ft st e =
          record {
            stands = st;
            distinct = distinct-insert T.equality f fs ft.distinct;
            size = length-snoc b.numbers v ∙ ap suc ft.size ∙ sym (length-snoc rf f);
            numbered = λ k g h. ⊎_elim (λ o. old k g o.0 o.1) (λ o. last k g o.0 o.1) (old_or_last rf f k g h);
          }
        where
          old : (k : ℕ) (g : Form) → k < length rf → get_elem? rf k ≡ some g
              → get_elem? (insert L.same f fs) (get_or (b.numbers ++ (v ∷ [])) k 0) ≡ some g
          old k g l h =
              let z = ft.size in rw (get_or-append b.numbers (v ∷ []) 0 k (omega arith)) (nth-insert T.equality f fs (number_at b k) g (ft.numbered k g h))

          last : (k : ℕ) (g : Form) → k ≡ length rf → f ≡ g → get_elem? (insert L.same f fs) (get_or (b.numbers ++ (v ∷ [])) k 0) ≡ some g
          last k g q p = rw (get_or_at b.numbers v [] 0 k (ft.size ∙ sym q)) (e ∙ ap some p)

      fits_one : (b : Bound) (rf fs : List Form) (x : Record Node) → Fits b rf fs → Earlier (length rf) x
          → Fits (bind_one b x) (rf ++ (record_form rf x ∷ [])) (insert L.same (record_form rf x) fs)
      unfolding bind_one record_form
      fits_one b rf fs (again j) ft h =
          let z = nth-has rf j h in
          let f = form_at L G rf j in
          let e : get_elem? fs (number_at b j) ≡ some f = ft.numbered j z.0 z.1 ∙ ap some (sym (getD-nth rf j z.0 G.nowhere z.1)) in
          let o = insert-old T.equality f fs (member-nth T.equality fs (number_at b j) f e) in
          longer b.nodes b rf fs f (number_at b j) ft (rw o ft.stands) (rw o e)
      fits_one b rf fs (fresh n) ft h =
          let m = relink n (number_at b) in
          let f = build n (form_at L G rf) in
          let q : build m (form_at L G fs) ≡ f =
          R.form n (number_at b) (form_at L G fs) h.fine
          ∙ B.agree n (λ (k : ℕ). form_at L G fs (number_at b k)) (form_at L G rf) (same_at h) in
          let st = bind-stands L G B T b.nodes fs ft.stands ft.distinct m (placed h) in
          let nu = bind-number L G B T b.nodes fs ft.stands ft.distinct m (placed h) in
          longer (cond (member G.same m b.nodes) b.nodes (b.nodes ++ (m ∷ []))) b rf fs f
          (cond (member G.same m b.nodes) (index G.same m b.nodes) (length b.nodes)) ft
          (rw q at st)
          (subst (λ (v : ℕ). get_elem? (insert L.same f fs) v ≡ some f) (rw q at nu)
          (nth-index T.equality f (insert L.same f fs) (insert-has T.equality f fs)))
        where
          same_at : Placed L G (length rf) n → (k : ℕ) → among k (links n) ≡ true → form_at L G fs (number_at b k) ≡ form_at L G rf k
          same_at p k a =
              let z = nth-has rf k (p.lower k a) in
              getD-nth fs (number_at b k) z.0 G.nowhere (ft.numbered k z.0 z.1) ∙ sym (getD-nth rf k z.0 G.nowhere z.1)

          lower : Placed L G (length rf) n → (j : ℕ) → among j (links (relink n (number_at b))) ≡ true → j < length b.nodes
          lower p j a =
              let k = R.from n (number_at b) j p.fine a in
              let z = nth-has rf k.0 (p.lower k.0 k.1) in
              let l = nth-below fs (number_at b k.0) z.0 (ft.numbered k.0 z.0 z.1) in
              let s = ft.stands.size in
              let e = k.2 in
              omega arith

          placed : Placed L G (length rf) n → Placed L G (length b.nodes) (relink n (number_at b))
          placed p = record { fine = R.fine n (number_at b) p.fine; lower = lower p }

      -- all records: the table then stands for the forms with those of the records inserted, and each record has its form's number
      pub fits_all : (b : Bound) (rf fs : List Form) (xs : List (Record Node)) → Fits b rf fs → Valid (length rf) xs
          → Fits (bind_all b xs) (rf ++ record_forms rf xs) (insert_all L.same (record_forms rf xs) fs)
      unfolding bind_all record_forms insert_all
      fits_all b rf fs [] ft v = rw (append-nil rf) ft
      fits_all b rf fs (x ∷ xs) ft v =
          let f = record_form rf x in
          let n = sym (length-snoc rf f) in
          rw (append_assoc rf (f ∷ []) (record_forms (rf ++ (f ∷ [])) xs)) at
          (fits_all (bind_one b x) (rf ++ (f ∷ [])) (insert L.same f fs) xs (fits_one b rf fs x ft v.0) (rw n at v.1))

      -- the number is the model's
      pub number_is : (b : Bound) (rf fs : List Form) → Fits b rf fs → (k : ℕ) (f : Form) → get_elem? rf k ≡ some f
          → number_at b k ≡ index L.same f fs
      number_is b rf fs ft k f e = sym (index-nth T.equality fs ft.distinct (number_at b k) f (ft.numbered k f e))
