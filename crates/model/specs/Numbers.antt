-- The parts numbered since the last opening: each number is its form's, so that parts carry one number exactly when their forms are equal.
-- Assumes nothing.
use Rattle.std.specs.Prelude.{◌≡◌, ◌↔◌, Bool, true, false, cond, length}
use Rattle.std.proofs.Math.Path.{refl}
use Rattle.std.proofs.Common.{sym, ap, ◌∙◌, subst}
use mathlib.Core.List.{List, [], ◌∷◌, ◌++◌, map, Memᴰ}
use Rattle.std.proofs.Math.Option.{some}
use Prim.Native.Nat.{ℕ, suc, ◌+◌, ◌≤◌}
use native.Mathlib.Omega.{arith}
use Rattle.std.proofs.Math.ListN.{get_elem?}
use Rattle.language.specs.Limits.{text_bytes}
use Rattle.model.specs.Lists.{All, member, index, insert_all}
use Rattle.model.specs.ListLaws.{all_append, all_in, member-tail, member-nth, nth-index, index-one, member-insert_all, insert_all-has, index-insert_all}
use Rattle.model.specs.Language.{Language, parts}
use Rattle.model.specs.Model.{State, forms, start, Request, Open, Edit, Preview, Print, Call, Answer, not_yet, finished, refused, printed, hold_all, said}
use Rattle.model.specs.Responses.{answer, next}
use Rattle.model.specs.Since.{Part, parts_from, forms_by_place, parts_in, parts_given}
use Rattle.model.specs.Runs.{model, answers, after}
use Rattle.model.specs.Laws.{Laws}
use Rattle.model.specs.Entries.{forms-hold_all, forms-work_out}
use Rattle.model.specs.Steps.{Step, declines, opens, edits, previews, prints, step}

module _ (L : Language) where
  open L use {Form, Shown, Reading, same, read}

  -- a preview's answer by cases
  pub of-preview : {A : Type 0} (g : Answer L → A) (x : A) (b : Bool) (k : ℕ) (v : Shown) → g (finished k v) ≡ x → g (not_yet k) ≡ x
      → g (cond b (finished k v) (not_yet k)) ≡ x
  of-preview g x true k v p q = p
  of-preview g x false k v p q = q

  no-parts : (q : Request L) (x : Answer L) → (said L x).numbers ≡ [] → parts_in L q x ≡ []
  unfolding parts_from
  no-parts (Open r) x e = refl
  no-parts (Edit ps t) x e = rw e (empty (forms_by_place L (read t)))
    where
      empty : (fs : List Form) → parts_from L t 0 fs [] ≡ []
      empty [] = refl
      empty (f ∷ fs) = refl
  no-parts (Preview n a) x e = refl
  no-parts (Print n bs) x e = refl

  -- A part is known: its form stands at its place of its text, which can be read, and has its number among the forms held.
  pub record Known (fs : List Form) (x : Part L) : Type 0 where
    pub order : List Form
    pub places : List Form
    pub whole : Form
    pub short : length x.text ≤ text_bytes
    pub reads : read x.text ≡ parts order places whole
    pub stands : get_elem? places x.place ≡ some x.form
    pub held : member same x.form fs ≡ true
    pub numbered : index same x.form fs ≡ x.number

  module _ (H : Laws L) where
    known-parts : (fs : List Form) (t : List ℕ) (order places : List Form) (whole : Form) → length t ≤ text_bytes → read t ≡ parts order places whole
        → (p : ℕ) (hs : List Form) → ((i : ℕ) (f : Form) → get_elem? hs i ≡ some f → (get_elem? places (p + i) ≡ some f) × (member same f fs ≡ true))
        → All (Known fs) (parts_from L t p hs (map (λ (f : Form). index same f fs) hs))
    unfolding parts_from
    known-parts fs t order places whole short reads p [] h = tt
    known-parts fs t order places whole short reads p (f ∷ hs) h =
        let z = h 0 f refl in
        let q : p + 0 ≡ p = omega arith in (
          record { order = order; places = places; whole = whole; short = short; reads = reads; stands = rw q at z.0; held = z.1; numbered = refl },
          known-parts fs t order places whole short reads (suc p) hs
              (λ i g e. let r = h (suc i) g e in let q' : p + suc i ≡ suc p + i = omega arith in (rw q' at r.0, r.1)),
        )

    known_more : (gs fs : List Form) (xs : List (Part L)) → All (Known fs) xs → All (Known (insert_all same gs fs)) xs
    known_more gs fs [] k = tt
    known_more gs fs (x ∷ xs) k =
        let y = k.0 in (
          record {
            order = y.order;
            places = y.places;
            whole = y.whole;
            short = y.short;
            reads = y.reads;
            stands = y.stands;
            held = member-insert_all H.tests.equality x.form gs fs y.held;
            numbered = index-insert_all H.tests.equality x.form gs fs y.held ∙ y.numbered;
          },
          known_more gs fs xs k.1,
        )

    abbrev since : State L → Call L → List (Part L) → List (Part L)
    since s c xs = cond (said L (answer L s c)).opening [] (parts_in L c.request (answer L s c) ++ xs)

    known_step : (s : State L) (c : Call L) (xs : List (Part L)) → All (Known (forms L s.entries)) xs
        → All (Known (forms L (next L s c).entries)) (since s c xs)
    known_step s c xs k = go (step L H s c)
      where
        go : Step L s c → All (Known (forms L (next L s c).entries)) (since s c xs)
        go (declines n at four e) = rw (e, answer, next) (rw (no-parts c.request (refused n at) refl) k)
        go (opens r q z e) = rw (e, answer, next) tt
        go (edits ps t order places whole q l room rd z e) =
            let fh = forms-hold_all L order s.entries in
            let fs = forms L (hold_all L order s.entries) in
            let b = (H.readable t order places whole l rd).bound in
            rw (e, q, answer, next)
            (rw rd
            (all_append (Known fs) (parts_from L t 0 places (map (λ (f : Form). index same f fs) places)) xs
            (known-parts fs t order places whole l rd 0 places
            (λ i f n. let o : 0 + i ≡ i = omega arith in (
              rw o n,
              rw fh (insert_all-has H.tests.equality f order (forms L s.entries)
                  (b f (member-tail H.tests.equality whole f places (member-nth H.tests.equality places i f n)))),
            )))
            (rw fh (known_more order (forms L s.entries) xs k))))
        go (previews n a f q z e) =
            rw (e, q, answer, next) (rw (of-preview (λ (x : Answer L). (said L x).opening) false _ _ _ refl refl) (rw (forms-work_out L s.recording a f s.entries) k))
        go (prints n bs t q e) = rw (e, answer, next) (rw (no-parts c.request (printed t) refl) k)

    known-run : (s : State L) (xs : List (Part L)) (cs : List (Call L)) → All (Known (forms L s.entries)) xs
        → All (Known (forms L (after (model L) s cs).entries)) (parts_given L xs cs (answers (model L) s cs))
    unfolding after parts_given answers
    known-run s xs [] k = k
    known-run s xs (c ∷ cs) k = known-run (next L s c) (since s c xs) cs (known_step s c xs k)

    module _ (r : List Reading) (cs : List (Call L)) where
      abbrev final : List Form
      final = forms L (after (model L) (start L r) cs).entries

      abbrev given : List (Part L)
      given = parts_given L [] cs (answers (model L) (start L r) cs)

      pub known : (x : Part L) → Memᴰ x given → Known final x
      known x i = all_in (Known final) given x i (known-run (start L r) [] cs tt)

      -- parts carry one number exactly when their forms are equal
      pub one_number : (x y : Part L) → Memᴰ x given → Memᴰ y given → (x.number ≡ y.number) ↔ (x.form ≡ y.form)
      one_number x y ix iy =
          let a = known x ix in
          let b = known y iy in (
            λ e. index-one H.tests.equality x.form y.form final a.held b.held (a.numbered ∙ e ∙ sym b.numbered),
            λ e. sym a.numbered ∙ ap (λ (f : Form). index same f final) e ∙ b.numbered,
          )

      -- and that number is its form's
      pub its-number : (x : Part L) → Memᴰ x given → get_elem? final x.number ≡ some x.form
      its-number x ix =
          let a = known x ix in
          subst (λ (n : ℕ). get_elem? final n ≡ some x.form) a.numbered (nth-index H.tests.equality x.form final a.held)
