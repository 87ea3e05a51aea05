-- The tests that come before a preview and a fetch, and laws of both, each with a premise for every call and test on the code's way. That a
-- fetched part lies within the readings follows from well-formedness. Assumes nothing.
use Rattle.std.specs.Prelude.{◌≡◌, Bool, true, false, cond, ◌&&◌, ◌||◌, List, [], ℕ, ◌+◌, ◌-◌, ◌%◌, ◌≤◌, ◌<◌, ltb, leb, eqb, ℤ, length, get_or, take, drop}
use Rattle.std.proofs.lemmas.Bool.{false≢true}
use Rattle.std.proofs.Common.{refl, sym, ap, ◌∙◌, arith, length-take-le}
use Rattle.std.proofs.Math.Bool.{and-eq-true_iff}
use borrow.Author.Tests.{lt-ltb, le-ltb, leb-true, ltb-true, eqb-true}
use Rattle.language.specs.Cases.{split}
use Rattle.language.specs.Limits.{table_entries, table_readings}
use Rattle.layout.specs.Memory.{Memory, fits, entry_count, reading_count, node_at, kept_at, memory}
use Rattle.table.specs.WellFormed.{names_right, kept_right, well_formed}
use Rattle.table.specs.Checked.{entries_right}
use Rattle.table.specs.CheckedLaws.{well-is}
use Rattle.binder.specs.WrittenLaws.{whole_is}
use Rattle.rules.specs.declared.Value.{Value}
use Rattle.rules.specs.declared.Value.TheVariants.{Number, Window, Function, Delayed, Missing}
use Rattle.values.specs.Packing.{window_cell, delayed_cell, missing_cell, unpack_of, is_packed}
use Rattle.values.specs.PackingLaws.{unpack-number, unpack-window, unpack-delayed, unpack-missing, passes-packs}
use Rattle.values.specs.Keepable.{Inside}
use Rattle.layout.specs.Links.{kind_at, key_at, value_at}
use Rattle.layout.specs.Nodes.{number_kind, variable_kind, unbound_kind, function_kind, works_kind}
use Rattle.evaluator.specs.Frames.{leaf_of, start_at}
use Rattle.schedule.specs.declared.View.{View}
use Rattle.schedule.specs.Works.{Lent, Works, show_of}
use Rattle.std.specs.Prelude.{Result, Ok, Err, IsErrAnd, is_err}
use Rattle.std.proofs.lemmas.Result.{err_from_is_err_and}
use Rattle.language.specs.declared.refusals.Refusal.{Refusal}
use Rattle.language.specs.declared.refusals.Refusal.TheVariants.{MemoryTooSmall, CacheIllFormed, NoSuchEntry}
use Rattle.interface.specs.declared.answers.Previewed.{Previewed}
use Rattle.interface.specs.declared.answers.Previewed.TheVariants.{NotYet, Finished}
use Rattle.interface.specs.Calls.{previewed, preview_memory, Part, window_in, part_of, fetched}
use Rattle.interface.proofs.CallsLaws.{part_held, kept-right}
use Rattle.interface.specs.Effects.{Previews}

-- whether a call on entry n may go on, or its refusal
unfoldable pub checked : Memory → ℕ → Result (Unit {0}) Refusal
checked m n =
    cond (fits m) (cond (well_formed m) (cond (ltb n (entry_count m)) (Ok tt) (Err NoSuchEntry)) (Err CacheIllFormed)) (Err MemoryTooSmall)

-- each test decides in its turn
module _ (rs : List ℤ) (heads links cells : List ℕ) (n : ℕ) (f : Bool) (qf : f ≡ fits (memory rs heads links cells)) where
  abbrev here : Memory
  here = memory rs heads links cells

  pub refuses-short : f ≡ false → Err MemoryTooSmall ≡ checked here n
  unfolding checked
  refuses-short t = rw (← qf, t)

  module _ (t : f ≡ true) (w : Bool) (qw : (xs : List ℤ) → w ≡ well_formed (memory xs heads links cells)) where
    pub refuses-ill : w ≡ false → Err CacheIllFormed ≡ checked here n
    unfolding checked
    refuses-ill u = rw (← qf, t) (rw (← qw rs, u))

    module _ (u : w ≡ true) (k : ℕ) (qk : k ≡ get_or heads 0 0) where
      pub refuses-none : n < k → Ok tt ≡ checked here n
      unfolding checked
      refuses-none h = rw (← qf, t) (rw (← qw rs, u) (rw (← qk, lt-ltb n k h)))

      pub refuses-unheld : k ≤ n → Err NoSuchEntry ≡ checked here n
      unfolding checked
      refuses-unheld h = rw (← qf, t) (rw (← qw rs, u) (rw (← qk, le-ltb n k h)))

pub ruleset refusals = (refuses-short, refuses-ill, refuses-none, refuses-unheld)

-- a call that is not refused
pub record Accepted (m : Memory) (n : ℕ) : Type 0 where
  pub whole : fits m ≡ true
  pub well : well_formed m ≡ true
  pub held : ltb n (entry_count m) ≡ true

pub accepted : (m : Memory) (n : ℕ) → checked m n ≡ Ok tt → Accepted m n
unfolding checked
accepted m n e =
    split (fits m)
    (λ f. split (well_formed m)
    (λ w. split (ltb n (entry_count m))
    (λ h. record { whole = f; well = w; held = h })
    (λ h. absurd (false≢true (let z = rw (f, w, h) at e in cc))))
    (λ w. absurd (false≢true (let z = rw (f, w) at e in cc))))
    (λ f. absurd (false≢true (let z = rw f at e in cc)))

passes-all : (m : Memory) (n : ℕ) → (fits m && (well_formed m && ltb n (entry_count m))) ≡ true → Accepted m n
passes-all m n t =
    let u = ((and-eq-true_iff (fits m) _).0 t).1 in
    record { whole = ((and-eq-true_iff _ _).0 t).0; well = ((and-eq-true_iff _ _).0 u).0; held = ((and-eq-true_iff (well_formed m) _).0 u).1 }

none-refused : (m : Memory) (n : ℕ) → Accepted m n → checked m n ≡ Ok tt
unfolding checked
none-refused m n a = rw (a.whole, a.well, a.held)

-- and the sizes that it may rely on
pub record Sizes (m : Memory) (n : ℕ) : Type 0 where
  pub entry : n < table_entries
  pub few : reading_count m ≤ table_readings
  pub within : reading_count m ≤ length m.readings
  pub room : 2048 ≤ length m.cells

pub sizes : (m : Memory) (n : ℕ) → Accepted m n → Sizes m n
unfolding fits
sizes m n a =
    let w = sym (well-is m.readings m.heads m.links m.cells) ∙ a.well in
    let e : entry_count m ≤ table_entries = leb-true (entry_count m) table_entries ((and-eq-true_iff _ _).0 w).0 in
    let k : reading_count m ≤ table_readings =
    leb-true (reading_count m) table_readings ((and-eq-true_iff _ _).0 ((and-eq-true_iff (leb (entry_count m) table_entries) _).0 w).1).0 in
    let h : n < entry_count m = ltb-true n (entry_count m) a.held in
    let l : table_readings ≤ length m.readings = leb-true table_readings (length m.readings) ((and-eq-true_iff _ _).0 a.whole).0 in
    record { entry = omega arith; few = k; within = omega arith; room = (whole_is m a.whole).in_cells }

-- ---- preview

pub preview-refused : (m : Memory) (n a : ℕ) (r : Result (Unit {0}) Refusal) → r ≡ checked m n → (e : Refusal) → r ≡ Err e
    → (x : Result Previewed Refusal) → IsErrAnd x (λ f. f ≡ e) → Previews m n a m x
unfolding previewed preview_memory checked
preview-refused m n a r q e u x w =
    let y = err_from_is_err_and x w in
    rw (y.1, y.2) (split (fits m)
    (λ f. split (well_formed m)
    (λ w. split (ltb n (entry_count m))
    (λ h. absurd (false≢true (let z = rw (f, w, h) at q in cc)))
    (λ h. let z : e ≡ NoSuchEntry = (let k = rw (f, w, h) at q in cc) in record { answer = rw (f, w, h) (ap Err z); memory = rw (f, w, h) }))
    (λ w. let z : e ≡ CacheIllFormed = (let k = rw (f, w) at q in cc) in record { answer = rw (f, w) (ap Err z); memory = rw (f, w) }))
    (λ f. let z : e ≡ MemoryTooSmall = (let k = rw f at q in cc) in record { answer = rw f (ap Err z); memory = rw f }))

module _ (rs : List ℤ) (heads links cells : List ℕ) (n : ℕ) (r : Result (Unit {0}) Refusal) (q : r ≡ checked (memory rs heads links cells) n)
    (done : Unit {0}) (z : r ≡ Ok done) where
  sure : Accepted (memory rs heads links cells) n
  sure = accepted (memory rs heads links cells) n (sym q ∙ z)

  pub entry-few : n < table_entries
  entry-few = (sizes (memory rs heads links cells) n sure).entry

  module _ (k : ℕ) (qk : k ≡ get_or heads 1 0) where
    pub readings-few : k ≤ table_readings
    readings-few = omega (arith, qk, (sizes (memory rs heads links cells) n sure).few)

    pub readings-taken : k ≡ length (take k rs)
    readings-taken = sym (length-take-le k rs (rw qk (sizes (memory rs heads links cells) n sure).within))

    pub work-lent : Lent (take k rs) cells n
    work-lent = record { few = omega (arith, readings-taken, readings-few); room = (sizes (memory rs heads links cells) n sure).room; entry = entry-few }

    module _ (a : ℕ) (after : List ℕ) (count : ℕ) (left : Bool) (w : Works (take k rs) links cells n a after count left) where
      pub preview-left : left ≡ true → Previews (memory rs heads links cells) n a (memory rs heads links after) (Ok (NotYet count))
      unfolding previewed preview_memory
      preview-left t =
          record {
            answer = rw (sure.whole, sure.well, sure.held) (rw (← qk, ← w.same, t));
            memory = rw (sure.whole, sure.well, sure.held) (rw (← qk, ← w.same));
          }

      pub preview-done : left ≡ false → (v : View) → v ≡ show_of k links after n → Previews (memory rs heads links cells) n a (memory rs heads links after) (Ok (Finished count v))
      unfolding previewed preview_memory
      preview-done t v e =
          record {
            answer = rw (sure.whole, sure.well, sure.held) (rw (← qk, ← w.same, t) (ap (λ u. Ok (Finished count u)) e));
            memory = rw (sure.whole, sure.well, sure.held) (rw (← qk, ← w.same));
          }

pub ruleset previews = (preview-refused, entry-few, readings-taken, work-lent, preview-left, preview-done)

-- ---- fetch

pub goes-on : (r : Result (Unit {0}) Refusal) → is_err r ≡ false → r ≡ Ok tt
goes-on (Ok done) e = refl
goes-on (Err f) e = absurd (false≢true (sym e))

-- the start and the length of a part
pub record Spans (p : Part) (start size : ℕ) : Type 0 where
  pub starts : start ≡ p.start
  pub lasts : size ≡ p.length

pub span-refused : (m : Memory) (n : ℕ) (r : Result (Unit {0}) Refusal) → r ≡ checked m n → is_err r ≡ true → Spans (part_of m n) 0 0
span-refused m n r q u =
    rw (part_held m n) (split (fits m && (well_formed m && ltb n (entry_count m)))
    (λ t. absurd (false≢true (let z : is_err r ≡ false = rw (q, none-refused m n (passes-all m n t)) in sym z ∙ u)))
    (λ t. record { starts = rw t; lasts = rw t }))

-- the part lies within the readings: of a leaf, since the recording is one window, and of another entry, since what is kept is right
window-within : (k : ℕ) (v : Value) → Inside k v → (window_in v).start + (window_in v).length ≤ k
window-within k (Window s l) i = i
window-within k (Number z) i = omega arith
window-within k Function i = omega arith
window-within k Delayed i = omega arith
window-within k (Missing r) i = omega arith

leaf-inside : (k kind key : ℕ) → k ≤ table_readings → Inside k (unpack_of (leaf_of k kind key))
unfolding leaf_of
leaf-inside k kind key h =
    split (eqb kind number_kind)
    (λ a. rw a (rw (unpack-number (key % 4294967296 + 1) (omega arith)) tt))
    (λ a. split (eqb kind variable_kind)
    (λ b. rw (a, b) (rw (unpack-delayed delayed_cell (omega arith) (omega arith)) tt))
    (λ b. split (eqb kind unbound_kind)
    (λ d. rw (a, b, d) (rw (unpack-missing (missing_cell + 1) (omega arith)) tt))
    (λ d. rw (a, b, d) (rw (unpack-window (window_cell + k) (omega arith) (omega arith)) (omega arith)))))

kept-inside : (links cells : List ℕ) (k count n : ℕ) → entries_right links cells k count ≡ true → n < count → Inside k (unpack_of (value_at cells n))
unfolding kept_right kept_at
kept-inside links cells k count n e h =
    let c = value_at cells n in
    let kept : (eqb c 0 || (works_kind (node_at links cells n).kind && is_packed c k)) ≡ true =
    ((and-eq-true_iff (names_right (kept_at cells n)) _).0 (kept-right links cells k count n e h)).1 in
    split (eqb c 0)
    (λ t. rw (unpack-number c (omega (arith, eqb-true c 0 t))) tt)
    (λ t. (passes-packs k c ((and-eq-true_iff (works_kind (node_at links cells n).kind) _).0 (rw t at kept)).1).kept.inside)

shown-inside : (m : Memory) (n : ℕ) → Accepted m n → Inside (reading_count m) (unpack_of (start_at (reading_count m) m.links m.cells n))
unfolding start_at
shown-inside m n a =
    let w = sym (well-is m.readings m.heads m.links m.cells) ∙ a.well in
    split (ltb (kind_at m.links n) function_kind)
    (λ t. rw t (leaf-inside (reading_count m) (kind_at m.links n) (key_at m.cells n) (sizes m n a).few))
    (λ t. rw t (kept-inside m.links m.cells (reading_count m) (entry_count m) n
    ((and-eq-true_iff (leb (reading_count m) table_readings) _).0 ((and-eq-true_iff (leb (entry_count m) table_entries) _).0 w).1).1
    (ltb-true n (entry_count m) a.held)))

pub part-within : (m : Memory) (n : ℕ) → (part_of m n).start + (part_of m n).length ≤ length m.readings
part-within m n =
    rw (part_held m n) (split (fits m && (well_formed m && ltb n (entry_count m)))
    (λ t.
    let a = passes-all m n t in
    let i = window-within (reading_count m) (unpack_of (start_at (reading_count m) m.links m.cells n)) (shown-inside m n a) in
    rw t (omega (arith, (sizes m n a).within)))
    (λ t. rw t (omega arith)))

module _ (m : Memory) (n start size : ℕ) (s : Spans (part_of m n) start size) where
  pub span-within : start + size ≤ length m.readings
  span-within = omega (arith, s.starts, s.lasts, part-within m n)

  pub fetch-is : take (start + size - start) (drop start m.readings) ≡ fetched m n
  fetch-is = let z : start + size - start ≡ size = omega arith in rw (z, s.starts, s.lasts)

-- of a call that is not refused, the part that the entry's value is as it starts out
pub span-shown : (rs : List ℤ) (heads links cells : List ℕ) (n : ℕ) (r : Result (Unit {0}) Refusal) → r ≡ checked (memory rs heads links cells) n
    → is_err r ≡ false → (k : ℕ) → k ≡ get_or heads 1 0 → (c : ℕ) → c ≡ start_at k links cells n → (v : Value) → v ≡ unpack_of c
    → (start size : ℕ) → Spans (window_in v) start size → Spans (part_of (memory rs heads links cells) n) start size
span-shown rs heads links cells n r q u k qk c qc v qv start size s =
    let a = accepted (memory rs heads links cells) n (sym q ∙ goes-on r u) in
    rw (part_held (memory rs heads links cells) n) (rw (a.whole, a.well, a.held) (rw (← qk, ← qc, ← qv) s))
