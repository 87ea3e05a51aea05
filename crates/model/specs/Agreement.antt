-- An engine that implements the model agrees with it over every run of calls. Assumes nothing.
use Rattle.std.specs.Prelude.{◌≡◌, true, false, cond, ltb, length}
use Rattle.std.proofs.lemmas.Bool.{false≢true}
use Rattle.std.proofs.Math.Path.{refl}
use Rattle.std.proofs.Common.{sym, ap, ◌∙◌, ltb-true, ltb-false}
use mathlib.Core.List.{List, [], ◌∷◌, ◌++◌, map}
use Rattle.std.proofs.Math.Option.{or_else}
use Prim.Native.Nat.{ℕ, zero, suc, ◌≤◌}
use Rattle.language.specs.Cases.{split}
use Rattle.language.specs.Limits.{table_readings}
use Rattle.model.specs.Language.{Language}
use Rattle.model.specs.Model.{Request, Open, Edit, Preview, Print, Answer, opened, lent_after, start, on_open, on_request, respond, said}
use Rattle.model.specs.Responses.{answer, next}
use Rattle.model.specs.Since.{SoundRequest, Sendable}
use Rattle.model.specs.Runs.{model, newly_marked, answers, lent_left, after, work_log, in_the_end}
use Rattle.model.specs.Laws.{Laws}
use Rattle.model.specs.Invariant.{Invariant}
use Rattle.model.specs.Steps.{accepts-open, declines-open, short-next}
use Rattle.model.specs.Preserved.{invariant-start, invariant-next}
use Rattle.model.specs.Engine.{Engine, Sent, told, machine}
use Rattle.model.specs.Implements.{Agrees, Implements}

module _ (L : Language) (H : Laws L) (E : Engine L) (I : Implements L H E) where
  open L use {Form, Reading, Sound}
  open E use {Memory}

  -- an open is accepted only over memory of the cache's size, and with no more readings than allowed
  pub accepted : (m : Memory) (r : List Reading) → E.says m (Open r) ≡ opened → (E.fits m ≡ true) × (length r ≤ table_readings)
  accepted m r e =
      split (E.fits m)
      (λ f. (f, split (ltb table_readings (length r)) (λ p. let z = (I.long m r f (ltb-true _ _ p)).0 in absurd (false≢true (cc))) (λ p. ltb-false _ _ p)))
      (λ f. absurd (false≢true (declined (sym (I.short-answer m (Open r) (start L r) f) ∙ e))))
    where
      declined : answer L (start L r) (record { enough = false; request = Open r }) ≡ opened → false ≡ true
      declined z =
          unfold on_request on_open in split (ltb table_readings (length r))
          (λ p. let y = rw (p, answer) at z in (cc)) (λ p. let y = rw (p, answer) at z in (cc))

  -- Memory that is a cache, opened and kept.
  pub record Cache (m : Memory) : Type 0 where
    pub ok : I.Ok m
    pub invariant : Invariant L H (E.holds m)

  pub opens : (m : Memory) (r : List Reading) → E.fits m ≡ true → length r ≤ table_readings → Sound r
      → Cache (E.leaves m (Open r)) × (E.holds (E.leaves m (Open r)) ≡ start L r)
  opens m r f h sound = let o = I.opening m r f h sound in let e = o.holds in (record { ok = o.ok; invariant = rw e (invariant-start L H r h sound) }, e)

  -- One call.
  pub record Agreed (m : Memory) (c : Sent E) : Type 0 where
    pub answer : (machine E).answer m c ≡ answer L (E.holds m) (told E c)
    pub holds : E.holds ((machine E).next m c) ≡ next L (E.holds m) (told E c)
    pub cache : Cache ((machine E).next m c)

  -- over a cache
  agree_on : (m : Memory) (q : Request L) → SoundRequest L q → Cache m
      → Agrees E I.Ok (respond L (E.holds m) (record { enough = true; request = q })) (E.says m q) (E.leaves m q)
  agree_on m (Open r) sound k =
      let f = I.kept-fits m k.ok in
      split (ltb table_readings (length r))
      (λ p.
      let l = ltb-true _ _ p in
      let z = I.long m r f l in
      let z₁ = z.1 in
      rw (declines-open L (E.holds m) true r l) (record { answer = z.0; ok = rw z₁ k.ok; holds = rw z₁ }))
      (λ p. let l = ltb-false _ _ p in rw (accepts-open L (E.holds m) r l) (I.opening m r f l sound))
  agree_on m (Edit ps t) sound k = unfold on_request in I.edit m ps t k.ok k.invariant
  agree_on m (Preview n a) sound k = unfold on_request in I.preview m n a k.ok k.invariant
  agree_on m (Print n bs) sound k = unfold on_request in I.print m n bs k.ok k.invariant

  -- over what is lent of a cache
  abbrev AgreesLent : Memory → Memory → Request L → Type 0
  AgreesLent n m q =
      Agrees E I.Ok (respond L (E.holds m) (record { enough = E.fits n; request = q })) (E.says (E.lend n m) q)
      (E.back m (E.leaves (E.lend n m) q))

  agree-lent : (n m : Memory) (q : Request L) → SoundRequest L q → Cache m → AgreesLent n m q
  agree-lent n m q sound k = split (E.fits n) enough short
    where
      enough : E.fits n ≡ true → AgreesLent n m q
      enough f =
          let given = I.lent n m f k.ok k.invariant in
          let h = given.holds in
          let one = agree_on (E.lend n m) q sound (record { ok = given.ok; invariant = rw h k.invariant }) in
          let o = one.holds in
          let i = invariant-next L H (E.holds (E.lend n m)) (record { enough = true; request = q }) sound (rw h k.invariant) in
          let r = I.returned m (E.leaves (E.lend n m) q) k.ok one.ok (rw o i) in
          rw f (record { answer = rw h at one.answer; ok = r.ok; holds = r.holds ∙ rw h at o })

      short : E.fits n ≡ false → AgreesLent n m q
      short f =
          let g = I.short n m f in
          let e = I.short-memory (E.lend n m) q g in
          let z = I.restored n m (I.kept-fits m k.ok) in
          rw f
          (record {
            answer = I.short-answer (E.lend n m) q (E.holds m) g;
            ok = rw (e, z) k.ok;
            holds = rw (e, z) (sym (short-next L (E.holds m) q));
          })

  pub agree : (m : Memory) (c : Sent E) → SoundRequest L c.request → Cache m → Agreed m c
  agree m c sound k =
      let x = agree-lent c.lent m c.request sound k in
      let h = x.holds in
      record {
        answer = x.answer;
        holds = h;
        cache = record { ok = x.ok; invariant = rw h (invariant-next L H (E.holds m) (told E c) sound k.invariant) };
      }

  -- A run of calls.
  pub record Carried (m : Memory) (cs : List (Sent E)) : Type 0 where
    pub answers : answers (machine E) m cs ≡ answers (model L) (E.holds m) (map (told E) cs)
    pub places : lent_left (machine E) m cs ≡ lent_left (model L) (E.holds m) (map (told E) cs)
    pub holds : E.holds (after (machine E) m cs) ≡ after (model L) (E.holds m) (map (told E) cs)
    pub cache : Cache (after (machine E) m cs)

  pub carry : (m : Memory) (cs : List (Sent E)) → Sendable L (map (told E) cs) → Cache m → Carried m cs
  unfolding answers lent_left after
  carry m [] sent k = record { answers = refl; places = refl; holds = refl; cache = k }
  carry m (c ∷ cs) sent k =
      let one = agree m c sent.0 k in
      let h = one.holds in
      let s = one.answer in
      let f = I.lent-after (E.lend c.lent m) c.request in
      let more = carry ((machine E).next m c) cs sent.1 one.cache in
      record {
        answers = rw s (ap (λ (l : List (Answer L)). answer L (E.holds m) (told E c) ∷ l) (rw h at more.answers));
        places = rw (f, s) (ap (λ (l : List (List ℕ)). lent_after L c.request (answer L (E.holds m) (told E c)) ∷ l) (rw h at more.places));
        holds = rw h at more.holds;
        cache = more.cache;
      }

  pub carry-log : (fs : List Form) (m : Memory) (cs : List (Sent E)) → Sendable L (map (told E) cs) → Cache m
      → work_log (machine E) fs m cs ≡ work_log (model L) fs (E.holds m) (map (told E) cs)
  unfolding work_log
  carry-log fs m [] sent k = refl
  carry-log fs m (c ∷ cs) sent k =
      let one = agree m c sent.0 k in
      let h = one.holds in
      let s = one.answer in
      carry-log (cond (said L ((machine E).answer m c)).opening [] (fs ++ newly_marked L (E.holds m).entries (E.holds ((machine E).next m c)).entries))
      ((machine E).next m c) cs sent.1 one.cache
      ∙ rw (s, h)

  pub carry-end : (times : ℕ) (m : Memory) (c : Sent E) → SoundRequest L c.request → Cache m
      → in_the_end (machine E) times m c ≡ in_the_end (model L) times (E.holds m) (told E c)
  unfolding in_the_end or_else
  carry-end zero m c sound k = refl
  carry-end (suc times) m c sound k =
      let one = agree m c sound k in
      let h = one.holds in
      let s = one.answer in
      let more = carry-end times ((machine E).next m c) c sound one.cache in
      rw (s, more, h)
