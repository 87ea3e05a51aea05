-- The runs of a function over a window, reading by reading: what is left of them gives the same tally. Assumes nothing.
use Rattle.std.specs.Prelude.{◌≡◌, refl, true, ℕ, ◌+◌, ◌≤◌, ◌<◌, ℤ, pos, length}
use Rattle.std.proofs.Math.Path.{sym, ap}
use Rattle.std.proofs.Common.{◌∙◌, arith, drop_of_length-le, drop-cons}
use mathlib.Core.List.{List, ◌∷◌, map}
use Rattle.std.proofs.Math.Numerals.{add-one}
use Rattle.std.proofs.Math.ListN.{get_or, drop}
use Rattle.members.specs.declared.Member.{Member}
use Rattle.rules.specs.declared.Value.{Value}
use Rattle.rules.specs.Windows.{readings_in}
use Rattle.values.specs.declared.runs.Tally.{Tally}
use Rattle.values.specs.Tallies.{begun, stepped, gathered, finished, Within, Steps}
use Rattle.values.specs.TallyLaws.{stopped-stays, finished-is, within_none, within_more}
use Rattle.values.specs.WindowLaws.{readings-short}
use Rattle.values.specs.Packing.{unpack_of}
use Rattle.meaning.specs.Forms.{Form}
use Rattle.layout.specs.Nodes.{member_kind}
use Rattle.layout.specs.Held.{record_at}
use Rattle.interpreter.specs.declared.bindings.Bindings.{Bindings}
use Rattle.interpreter.specs.declared.memo.Known.{Known}
use Rattle.levels.specs.Interpreting.{ran}
use Rattle.interpreter.specs.Standing.{Stands}
use Rattle.interpreter.specs.Cells.{scope_of}
use Rattle.interpreter.specs.Walking.{Keeps, Ran, Over}

module _ (xs : List ℤ) (R orders : List ℕ) (s : Bindings) (f : ℕ) where
  abbrev results : Form → List ℤ → List Value
  results F zs = map (ran xs (scope_of s) F) zs

  -- the runs before reading k
  pub record Sums (zs : List ℤ) (t : Tally) (k : ℕ) : Type 0 where
    pub within : Within k t
    pub same : (F : Form) → Stands (record_at R) f F → gathered t (results F (drop k zs)) ≡ gathered begun (results F zs)

  pub sums-begin : (zs : List ℤ) (t : Tally) → t ≡ begun → Sums zs t 0
  sums-begin zs t e = rw e (record { within = within_none; same = λ F h. refl })

  module _ (zs : List ℤ) (t : Tally) (k : ℕ) (so : Sums zs t k) where
    pub sums-within : length zs ≤ 65535 → k < length zs → Within 65534 t
    sums-within l h = within_more k 65534 t (omega arith) so.within

    pub sums-more : k < length zs → (memo : List Known) (r : ℕ) (y : ℤ) → Ran xs R orders s f y memo r → y ≡ get_or zs k (pos 0) → (v : Value) → v ≡ unpack_of r
        → (u : Tally) → Steps t v u → Sums zs u (k + 1)
    unfolding gathered
    sums-more h memo r y once at v e u st =
        record {
          within = st.bound k so.within;
          same = λ F z.
              let left : drop k zs ≡ get_or zs k (pos 0) ∷ drop (k + 1) zs = rw add-one (drop-cons zs k (pos 0) h) in
              let is : u ≡ stepped t (ran xs (scope_of s) F (get_or zs k (pos 0))) = st.same ∙ ap (stepped t) (e ∙ once.right F z ∙ ap (ran xs (scope_of s) F) at) in
              ap (λ (w : Tally). gathered w (results F (drop (k + 1) zs))) is ∙ sym (ap (λ (ys : List ℤ). gathered t (results F ys)) left) ∙ so.same F z;
        }

  module _ (from count : ℕ) where
    abbrev zs : List ℤ
    zs = readings_in xs from count

    over_by : (t : Tally) → ((F : Form) → Stands (record_at R) f F → t ≡ gathered begun (results F zs)) → (memo : List Known) → Keeps xs R orders memo → (kind r : ℕ)
        → ((m : Member) → kind ≡ member_kind m → unpack_of r ≡ finished m t) → Over xs R orders s f kind from count memo r
    over_by t same memo keeps kind r end =
        record { right = λ m k F z. end m k ∙ ap (finished m) (same F z) ∙ finished-is m (results F zs); keeps = keeps }

    module _ (window : List ℤ) (e : window ≡ zs) (t : Tally) (k : ℕ) (so : Sums window t k) (memo : List Known) (keeps : Keeps xs R orders memo) (kind r : ℕ)
        (end : (m : Member) → kind ≡ member_kind m → unpack_of r ≡ finished m t) where
      pub over-stopped : t.stopped ≡ true → Over xs R orders s f kind from count memo r
      over-stopped h =
          over_by t (λ F z. sym (stopped-stays t (results F (drop k window)) h) ∙ so.same F z ∙ ap (λ (ys : List ℤ). gathered begun (results F ys)) e) memo keeps kind r end

      pub over-ended : length window ≤ k → Over xs R orders s f kind from count memo r
      unfolding gathered
      over-ended h =
          over_by t
          (λ F z.
          sym (ap (λ (ys : List ℤ). gathered t (results F ys)) (drop_of_length-le window {i = k} h))
          ∙ so.same F z ∙ ap (λ (ys : List ℤ). gathered begun (results F ys)) e)
          memo keeps kind r end

-- a window has fewer readings than a tally can take
pub window-short : (xs : List ℤ) (from count : ℕ) (window : List ℤ) → window ≡ readings_in xs from count → count ≤ 65535 → length window ≤ 65535
window-short xs from count window e h = let l = readings-short xs from count in rw e (omega arith)
