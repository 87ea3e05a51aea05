-- Each step of the writer: what it writes is what stands directly before the bytes written so far. Assumes nothing.
use Rattle.std.specs.Prelude.{◌≡◌, refl, Option, Some, None, Bool, true, ◌⊎◌, eqb, get_or, set, drop}
use Rattle.std.specs.Option.{is_some}
use Rattle.std.proofs.Common.{sym, ◌∙◌, inl, inr, ⊎_elim, ne_eqb, length-append, length-drop, drop_of_length-le}
use Rattle.std.proofs.Math.Path.{ap, subst}
use Rattle.std.proofs.Math.Bool.{false, cond}
use mathlib.Core.List.{List, [], ◌∷◌, ◌++◌, append_assoc, append-nil}
use Prim.Native.Nat.{ℕ, zero, suc, ◌+◌, ◌-◌, ◌*◌, ◌/◌, ◌%◌, ◌≤◌, ◌<◌}
use native.Mathlib.Omega.{arith}
use Rattle.std.proofs.Math.ListN.{length}
use Rattle.language.specs.Limits.{text_bytes, table_entries}
use Rattle.language.specs.Names.{bytes}
use Rattle.members.specs.Members.{spelled}
use Rattle.members.specs.declared.Member.{Member}
use Rattle.meaning.specs.Forms.{Form, name_in, number, variable, unbound, readings, ask, call, function}
use Rattle.layout.specs.Memory.{Node, node_at}
use Rattle.layout.specs.Nodes.{function_kind, member_of_kind, variable_in}
use Rattle.table.specs.NodeKinds.{Fine, right-fine}
use Rattle.table.specs.RightLaws.{first-low, second-low}
use Rattle.printing.specs.Printed.{unpack_onto, unpacked, is_function, as_receiver, text_of}
use Rattle.writer.specs.declared.page.Page.{Page}
use Rattle.writer.specs.Putting.{Puts, InFrame, leaf_bytes, member_bytes, head_bytes}
use Rattle.writer.specs.NodeTexts.{function-node, leaf-node, ask-node, call-node}
use Rattle.writer.specs.Writing.{form_in, Tabled, before, stack, around, next_text, Opens, Waits, turn_number, Ready, rank, left, Spelled, Onward, Moves, Goes, Written, Writes}
use denote.Enum.Declared.{tag_of}
use Rattle.writer.specs.contracts.write.Turn.{the_type}
use Rattle.writer.specs.declared.write.Turn.{Turn}
use Rattle.writer.specs.declared.write.Turn.TheVariants.{Enter, Receiver, Leave, Done}
use Rattle.writer.specs.declared.write.Spot.{Spot}

-- ---- what stands before only adds bytes

longer : (w t : List ℕ) → length t ≤ length (w ++ t)
longer w t = rw (length-append w t) (omega arith)

before-longer : (r : Bool) (f : Form) (t : List ℕ) → length t ≤ length (before r f t)
unfolding before
before-longer r (function x b) t =
    let a = longer (bytes " -> ") t in
    let c = longer (unpacked (name_in x)) (bytes " -> " ++ t) in
    let d = longer (bytes "\\") (unpacked (name_in x) ++ (bytes " -> " ++ t)) in
    let e = longer (cond r (bytes "(") []) (bytes "\\" ++ (unpacked (name_in x) ++ (bytes " -> " ++ t))) in
    omega arith
before-longer r (call m f g) t =
    let a = longer (bytes "(") t in
    let c = longer (spelled m) (bytes "(" ++ t) in
    let d = longer (bytes ".") (spelled m ++ (bytes "(" ++ t)) in
    let e = longer (as_receiver f (text_of f)) (bytes "." ++ (spelled m ++ (bytes "(" ++ t))) in
    omega arith
before-longer r (number z) t = omega arith
before-longer r (variable x) t = omega arith
before-longer r (unbound x) t = omega arith
before-longer r readings t = omega arith
before-longer r (ask m f) t = omega arith

around-longer : (φ : ℕ → Form) (xs t : List ℕ) → length t ≤ length (around φ xs t)
unfolding around
around-longer φ [] t = omega arith
around-longer φ (x ∷ xs) t =
    let a = before-longer (eqb (x % 2) 1) (φ (x / 2)) t in
    let b = around-longer φ xs (before (eqb (x % 2) 1) (φ (x / 2)) t) in
    omega arith

next-longer : (k : ℕ) (f : Form) (t : List ℕ) → length t ≤ length (next_text k f t)
next-longer zero f t = longer (text_of f) t
next-longer (suc zero) f t = longer (as_receiver f (text_of f)) t
next-longer (suc (suc k)) f t = omega arith

-- ---- the list of what is open

stack-lower : (pending : List ℕ) (k j x : ℕ) → j ≤ k → stack (set pending k x) j ≡ stack pending j
unfolding stack
stack-lower pending k zero x h = refl
stack-lower pending k (suc j) x h =
    λ i. get_other pending k j x (omega arith) i ∷ stack-lower pending k j x (omega arith) i
  where
    get_other : (l : List ℕ) (k j x : ℕ) → j < k → get_or (set l k x) j 0 ≡ get_or l j 0
    get_other [] k j x h = refl
    get_other (y ∷ l) zero j x h = absurd (omega arith)
    get_other (y ∷ l) (suc k) zero x h = refl
    get_other (y ∷ l) (suc k) (suc j) x h = get_other l k j x (omega arith)

stack_push : (pending : List ℕ) (k x : ℕ) → k < length pending → stack (set pending k x) (suc k) ≡ x ∷ stack pending k
unfolding stack
stack_push pending k x h = λ i. get_set pending k h i ∷ stack-lower pending k k x (omega arith) i
  where
    get_set : (l : List ℕ) (k : ℕ) → k < length l → get_or (set l k x) k 0 ≡ x
    get_set [] k h = absurd (omega arith)
    get_set (y ∷ l) zero h = refl
    get_set (y ∷ l) (suc k) h = get_set l k (omega arith)

length-stack : (pending : List ℕ) (k : ℕ) → length (stack pending k) ≡ k
unfolding stack
length-stack pending zero = refl
length-stack pending (suc k) = ap suc (length-stack pending k)

set-length : (l : List ℕ) (k x : ℕ) → length (set l k x) ≡ length l
set-length [] k x = refl
set-length (y ∷ l) zero x = refl
set-length (y ∷ l) (suc k) x = ap suc (set-length l k x)

-- ---- a step that writes the bytes w: it is made where there is room for them
pub record Both (links cells : List ℕ) (count : ℕ) (s : Spot) (pending : List ℕ) (p : Page) (w : List ℕ) (s' : Spot) (pending' : List ℕ) : Type 0 where
  pub made : (p' : Page) → Puts w p (Some tt) p' → Moves links cells count s pending p (Some s') pending' p'
  pub stopped : (p' : Page) → Puts w p None p' → Moves links cells count s pending p None pending' p'

-- ---- any step

rank-few : (k e : ℕ) → rank k e ≤ suc e
rank-few zero e = omega arith
rank-few (suc zero) e = omega arith
rank-few (suc (suc k)) e = omega arith

module _ {links cells : List ℕ} {count : ℕ} {s : Spot} {pending : List ℕ} {p : Page} (r : Ready links cells count s pending p) (going : turn_number s.turn ≤ 2) where
  abbrev φ : ℕ → Form
  φ = form_in links cells count

  -- the text that s spells with u written
  abbrev text : Spot → List ℕ → List ℕ → List ℕ
  text s' pending' u = around φ (stack pending' s'.depth) (next_text (turn_number s'.turn) (φ s'.entry) u)

  module _ (w : List ℕ) (s' : Spot) (pending' : List ℕ) (list : length pending' ≡ table_entries)
      (going' : turn_number s'.turn ≤ 2) (entry : s'.entry < count) (depth : s'.entry + s'.depth < table_entries)
      (waits : Waits links cells count (stack pending' s'.depth))
      (same : (u : List ℕ) → text s pending u ≡ text s' pending' (w ++ u))
      (falls : (1 ≤ length w) ⊎ (rank (turn_number s'.turn) s'.entry < rank (turn_number s.turn) s.entry)) where
    long : (t : List ℕ) → Spelled links cells count s pending p t → length w + (text_bytes - p.at) ≤ length t
    long t e =
        let u = w ++ drop p.at p.bytes in
        let q : text s' pending' u ≡ t = sym (same (drop p.at p.bytes)) ∙ e in
        let a = next-longer (turn_number s'.turn) (φ s'.entry) u in
        let b = around-longer φ (stack pending' s'.depth) (next_text (turn_number s'.turn) (φ s'.entry) u) in
        let c = ap length q in
        let d = length-append w (drop p.at p.bytes) in
        let f = length-drop p.at p.bytes in
        let g = p.whole in
        let i = r.top in
        omega arith

    module _ {p' : Page} (h : Puts w p (Some tt) p') where
      less : left s' p' < left s p
      less =
          let z = (h.written refl).size in
          let i = r.top in
          let a = rank-few (turn_number s'.turn) s'.entry in
          let b = r.table.few in
          rw (ne_eqb (turn_number s.turn) 3 (λ e. omega arith), ne_eqb (turn_number s'.turn) 3 (λ e. omega arith))
          (⊎_elim (λ h. omega arith) (λ h. omega arith) falls)

      onward : Onward links cells count s pending p s' pending' p'
      onward =
          let z = h.written refl in
          record {
            ready =
                record {
                  table = r.table;
                  list = list;
                  room = rw h.same (z.room r.room);
                  top = let i = r.top in let d = h.down in omega arith;
                  entry = entry;
                  depth = depth;
                  waits = waits;
                };
            less = less;
            spells = λ t k. ap (text s' pending') z.bytes ∙ sym (same (drop p.at p.bytes)) ∙ k;
            closed = λ e. absurd (omega arith);
          }

      pub moves : Moves links cells count s pending p (Some s') pending' p'
      moves =
          record {
            same = h.same;
            top = let i = r.top in let d = h.down in omega arith;
            on = λ x e. let q : s' ≡ x = cc in subst (λ (y : Spot). Onward links cells count s pending p y pending' p') q onward;
            full = λ e. cc;
          }

    pub stops : {p' : Page} → Puts w p None p' → Moves links cells count s pending p None pending' p'
    stops h =
        record {
          same = h.same;
          top = let i = r.top in let d = h.down in omega arith;
          on = λ x e. cc;
          full = λ e t k. let a = long t k in let c = r.top in ⊎_elim (λ z. absurd (omega arith)) (λ b. omega arith) (h.full refl);
        }

    -- with room for the bytes w, and without it
    pub both : Both links cells count s pending p w s' pending'
    both = record { made = λ p' h. moves h; stopped = λ p' h. stops h }

-- ---- the texts, as the steps take them apart

after_two : (a b c d : List ℕ) → (a ++ (b ++ c)) ++ d ≡ a ++ (b ++ (c ++ d))
after_two a b c d = append_assoc a (b ++ c) d ∙ ap (λ (l : List ℕ). a ++ l) (append_assoc b c d)

after-three : (a b c d e : List ℕ) → (a ++ (b ++ (c ++ d))) ++ e ≡ a ++ (b ++ (c ++ (d ++ e)))
after-three a b c d e = append_assoc a (b ++ (c ++ d)) e ∙ ap (λ (l : List ℕ). a ++ l) (after_two b c d e)

after-four : (a b c d e f : List ℕ) → (a ++ (b ++ (c ++ (d ++ e)))) ++ f ≡ a ++ (b ++ (c ++ (d ++ (e ++ f))))
after-four a b c d e f = append_assoc a (b ++ (c ++ (d ++ e))) f ∙ ap (λ (l : List ℕ). a ++ l) (after-three b c d e f)

-- a receiver that is no function stands as it is
plain-text : (k : ℕ) (f : Form) (u : List ℕ) → k ≤ 1 → is_function f ≡ false → next_text k f u ≡ text_of f ++ u
plain-text zero f u h e = refl
plain-text (suc zero) f u h e = rw e
plain-text (suc (suc k)) f u h e = absurd (omega arith)

function-text : (k x : ℕ) (b : Form) (u : List ℕ) → k ≤ 1
    → next_text k (function x b) u ≡ before (eqb k 1) (function x b) (text_of b ++ (cond (eqb k 1) (bytes ")") [] ++ u))
unfolding before text_of
function-text zero x b u h = after-three (bytes "\\") (unpacked (name_in x)) (bytes " -> ") (text_of b) u
function-text (suc zero) x b u h =
    after_two (bytes "(") (text_of (function x b)) (bytes ")") u
    ∙ ap (λ (l : List ℕ). bytes "(" ++ l) (after-three (bytes "\\") (unpacked (name_in x)) (bytes " -> ") (text_of b) (bytes ")" ++ u))
function-text (suc (suc k)) x b u h = absurd (omega arith)

ask-text : (k : ℕ) (m : Member) (f : Form) (u : List ℕ) → k ≤ 1
    → next_text k (ask m f) u ≡ as_receiver f (text_of f) ++ ((member_bytes (Some m) ++ bytes "()") ++ u)
unfolding text_of member_bytes
ask-text k m f u h =
    plain-text k (ask m f) u h refl
    ∙ after-three (as_receiver f (text_of f)) (bytes ".") (spelled m) (bytes "()") u
    ∙ ap (λ (l : List ℕ). as_receiver f (text_of f) ++ l) (sym (append_assoc (bytes "." ++ spelled m) (bytes "()") u ∙ append_assoc (bytes ".") (spelled m) (bytes "()" ++ u)))

call-text : (k : ℕ) (r : Bool) (m : Member) (f a : Form) (u : List ℕ) → k ≤ 1 → next_text k (call m f a) u ≡ before r (call m f a) (text_of a ++ (bytes ")" ++ u))
unfolding before text_of
call-text k r m f a u h =
    plain-text k (call m f a) u h refl
    ∙ append_assoc (as_receiver f (text_of f)) (bytes "." ++ (spelled m ++ (bytes "(" ++ (text_of a ++ bytes ")")))) u
    ∙ ap (λ (l : List ℕ). as_receiver f (text_of f) ++ l) (after-four (bytes ".") (spelled m) (bytes "(") (text_of a) (bytes ")") u)

before-function : (r : Bool) (x : ℕ) (b : Form) (u : List ℕ)
    → before r (function x b) u ≡ (cond r (bytes "(") [] ++ (bytes "\\" ++ (unpacked (name_in x) ++ bytes " -> "))) ++ u
unfolding before
before-function r x b u = sym (after-three (cond r (bytes "(") []) (bytes "\\") (unpacked (name_in x)) (bytes " -> ") u)

before-call : (r : Bool) (m : Member) (f a : Form) (u : List ℕ) → before r (call m f a) u ≡ as_receiver f (text_of f) ++ ((member_bytes (Some m) ++ bytes "(") ++ u)
unfolding before member_bytes
before-call r m f a u =
    ap (λ (l : List ℕ). as_receiver f (text_of f) ++ l) (sym (append_assoc (bytes "." ++ spelled m) (bytes "(") u ∙ append_assoc (bytes ".") (spelled m) (bytes "(" ++ u)))

-- ---- the steps

-- a turn as the code has it
pub turn-tag : (t : Turn) → tag_of the_type t ≡ turn_number t
turn-tag Enter = refl
turn-tag Receiver = refl
turn-tag Leave = refl
turn-tag Done = refl

module _ {links cells : List ℕ} {count : ℕ} {s : Spot} {pending : List ℕ} {p : Page} (r : Ready links cells count s pending p) where
  abbrev ψ : ℕ → Form
  ψ = form_in links cells count

  abbrev at : ℕ → Node
  at i = node_at links cells i

  abbrev turn : ℕ
  turn = turn_number s.turn

  abbrev To : List ℕ → Spot → List ℕ → Type 0
  To = Both links cells count s pending p

  fine : (i : ℕ) → i < count → Fine (at i)
  fine i h = right-fine i (at i) (r.table.right i h)

  -- what is pushed
  two : (e k : ℕ) → k ≤ 1 → ((2 * e + k) / 2 ≡ e) × ((2 * e + k) % 2 ≡ k)
  two e k h = (omega arith, omega arith)

  module _ (entering : turn ≤ 1) where
    abbrev e : ℕ
    e = s.entry

    abbrev below : List ℕ
    below = stack pending s.depth

    -- the entry is open, and its last dependency is next
    module _ (x k : ℕ) (xk : x ≡ 2 * e + k) (kk : k ≤ 1) (j : ℕ) (low-j : j < e)
        (kind : Opens (at e)) where
      abbrev pushed : List ℕ
      pushed = set pending s.depth x

      pushed-stack : stack pushed (s.depth + 1) ≡ x ∷ below
      pushed-stack =
          let d = r.depth in
          let l = r.list in
          let z : s.depth + 1 ≡ suc s.depth = omega arith in
          rw z (stack_push pending s.depth x (omega arith))

      pushed_waits : Waits links cells count (stack pushed (s.depth + 1))
      pushed_waits =
          let h = (two e k kk).0 in
          let q : x / 2 ≡ e = omega arith in
          let d = r.depth in
          let l = length-stack pending s.depth in
          rw (pushed-stack, q) ((r.entry, omega arith, kind), r.waits)

      pushed-around : (t : List ℕ) → around ψ (stack pushed (s.depth + 1)) t ≡ around ψ below (before (eqb k 1) (ψ e) t)
      unfolding around
      pushed-around t =
          let h = two e k kk in
          let a = h.0 in
          let b = h.1 in
          let q : x / 2 ≡ e = omega arith in
          let p : x % 2 ≡ k = omega arith in
          ap (λ (l : List ℕ). around ψ l t) pushed-stack ∙ (λ i. around ψ below (before (eqb (p i) 1) (ψ (q i)) t))

      opened : (w : List ℕ) → ((u : List ℕ) → next_text turn (ψ e) u ≡ before (eqb k 1) (ψ e) (text_of (ψ j) ++ (w ++ u)))
          → To w (record { depth = s.depth + 1; entry = j; turn = Enter }) pushed
      opened w same =
          let d = r.depth in
          both r (omega arith) w (record { depth = s.depth + 1; entry = j; turn = Enter }) pushed (set-length pending s.depth x ∙ r.list)
          (omega arith) (let h = r.entry in omega arith) (omega arith) pushed_waits
          (λ u. ap (around ψ below) (same u) ∙ sym (pushed-around (text_of (ψ j) ++ (w ++ u))))
          (inr (falling turn entering))
        where
          falling : (t : ℕ) → t ≤ 1 → rank 0 j < rank t e
          falling zero h = omega arith
          falling (suc zero) h = omega arith
          falling (suc (suc t)) h = absurd (omega arith)

    pub enter-function : (at e).kind ≡ function_kind → (wanted : Bool) → wanted ≡ eqb turn 1 → (x j : ℕ) → x ≡ 2 * e + turn
        → j ≡ (at e).first - 1 → To (cond wanted (41 ∷ []) []) (record { depth = s.depth + 1; entry = j; turn = Enter }) (set pending s.depth x)
    unfolding bytes
    enter-function k wanted q x j xk jk =
        let v = function-node (fine e r.entry) k in
        let g = v.first in
        let l = first-low e (at e) (r.table.right e r.entry) in
        let b : j ≡ v.body = omega arith in
        let f : ψ e ≡ function (variable_in (at e)) (ψ j) = r.table.forms e r.entry ∙ rw b (v.form ψ) in
        rw q (opened x turn xk entering j (omega arith) (inl k) (cond (eqb turn 1) (41 ∷ []) [])
        (λ u. rw f (function-text turn (variable_in (at e)) (ψ j) u entering)))

    pub enter-call : ((at e).kind ≡ function_kind → ⊥) → 1 ≤ (at e).second → (x j : ℕ) → x ≡ 2 * e
        → j ≡ (at e).second - 1 → To (41 ∷ []) (record { depth = s.depth + 1; entry = j; turn = Enter }) (set pending s.depth x)
    unfolding bytes
    enter-call k h x j xk jk =
        let v = call-node (fine e r.entry) k h in
        let g = v.second in
        let l = second-low e (at e) (r.table.right e r.entry) in
        let b : j ≡ v.argument = omega arith in
        let f : ψ e ≡ call v.member (ψ v.receiver) (ψ j) = r.table.forms e r.entry ∙ rw b (v.form ψ) in
        opened x 0 (omega arith) (omega arith) j (omega arith) (inr (k, h)) (41 ∷ [])
        (λ u. rw f (call-text turn false v.member (ψ v.receiver) (ψ j) u entering))

    falls-to : (t k : ℕ) → t ≤ 1 → rank (suc (suc k)) e < rank t e
    falls-to zero k h = omega arith
    falls-to (suc zero) k h = omega arith
    falls-to (suc (suc t)) k h = absurd (omega arith)

    pub enter-leaf : (at e).kind < function_kind → (n : Node) → n ≡ at e → To (leaf_bytes n) (record { depth = s.depth; entry = s.entry; turn = Leave }) pending
    enter-leaf k n q =
        let v = leaf-node (fine e r.entry) k in
        let f = r.table.forms e r.entry in
        let plain : is_function (ψ e) ≡ false = ap is_function f ∙ v.plain ψ in
        let text : text_of (ψ e) ≡ leaf_bytes n = ap text_of f ∙ v.text ψ ∙ ap leaf_bytes (sym q) in
        both r (omega arith) (leaf_bytes n) (record { depth = s.depth; entry = s.entry; turn = Leave }) pending r.list (omega arith) r.entry r.depth r.waits
        (λ u. ap (around ψ below) (plain-text turn (ψ e) u entering plain ∙ ap (λ (t : List ℕ). t ++ u) text))
        (inr (falls-to turn 0 entering))

    pub enter-ask : function_kind < (at e).kind → (at e).second ≡ 0 → (j : ℕ) → j ≡ (at e).first - 1
        → To (member_bytes (member_of_kind (at e).kind) ++ unpacked 10281) (record { depth = s.depth; entry = j; turn = Receiver }) pending
    unfolding bytes unpack_onto
    enter-ask k z j jk =
        let v = ask-node (fine e r.entry) k z in
        let g = v.first in
        let l = first-low e (at e) (r.table.right e r.entry) in
        let d = r.depth in
        let c = r.entry in
        let b : j ≡ v.receiver = omega arith in
        let f : ψ e ≡ ask v.member (ψ j) = r.table.forms e r.entry ∙ rw b (v.form ψ) in
        let w : List ℕ = member_bytes (Some v.member) ++ (40 ∷ 41 ∷ []) in
        let some : 1 ≤ length w = rw (length-append (member_bytes (Some v.member)) (40 ∷ 41 ∷ [])) (omega arith) in
        rw v.is (both r (omega arith) w (record { depth = s.depth; entry = j; turn = Receiver }) pending r.list (omega arith) (omega arith)
        (omega arith) r.waits
        (λ u. ap (around ψ below) (rw f (ask-text turn v.member (ψ j) u entering)))
        (inl some))

  module _ (leaving : turn ≡ 2) where
    -- the text with u written, by what is open alone
    left-text : (u : List ℕ) → around ψ (stack pending s.depth) (next_text turn (ψ s.entry) u) ≡ around ψ (stack pending s.depth) u
    left-text u = rw leaving

    pub leave-last : s.depth ≡ 0 → Moves links cells count s pending p (Some (record { depth = s.depth; entry = s.entry; turn = Done })) pending p
    unfolding stack
    leave-last z =
        record {
          same = refl;
          top = r.top;
          on = λ x e.
              let q : record { depth = s.depth; entry = s.entry; turn = Done } ≡ x = cc in
              subst (λ (y : Spot). Onward links cells count s pending p y pending p) q last;
          full = λ e. cc;
        }
      where
        last : Onward links cells count s pending p (record { depth = s.depth; entry = s.entry; turn = Done }) pending p
        last = record {
          ready = record { table = r.table; list = r.list; room = r.room; top = r.top; entry = r.entry; depth = r.depth; waits = r.waits };
          less = rw leaving (omega arith);
          spells = λ t h. rw leaving at h;
          closed = λ e. z;
        }

    module _ (k : ℕ) (last : k ≡ s.depth - 1) (some : s.depth ≡ 0 → ⊥) (x : ℕ) (top : x ≡ get_or pending k 0) where
      abbrev i : ℕ
      i = x / 2

      abbrev under : List ℕ
      under = stack pending k

      stack_is : stack pending s.depth ≡ x ∷ under
      unfolding stack
      stack_is = let z : s.depth ≡ suc k = omega arith in rw (z, ← top)

      waiting : ((i < count) × (i + length under < table_entries) × Opens (at i)) × Waits links cells count under
      waiting = rw stack_is at r.waits

      popped : (u : List ℕ) → around ψ (stack pending s.depth) (next_text turn (ψ s.entry) u) ≡ around ψ under (before (eqb (x % 2) 1) (ψ i) u)
      unfolding around
      popped u = left-text u ∙ ap (λ (l : List ℕ). around ψ l u) stack_is

      pub leave-held : i < count
      leave-held = waiting.0.0

      pub leave-function : (at i).kind ≡ function_kind → (wanted : Bool) → wanted ≡ eqb (x % 2) 1 → (key : ℕ) → key ≡ (at i).key
          → To (head_bytes wanted key) (record { depth = k; entry = i; turn = Leave }) pending
      unfolding head_bytes bytes
      leave-function e wanted q key ke =
          let v = function-node (fine i leave-held) e in
          let f : ψ i ≡ function (variable_in (at i)) (ψ v.body) = r.table.forms i leave-held ∙ v.form ψ in
          let w : List ℕ = cond (eqb (x % 2) 1) (40 ∷ []) [] ++ ((92 ∷ []) ++ (unpacked (at i).key ++ (32 ∷ 45 ∷ 62 ∷ 32 ∷ []))) in
          let some : 1 ≤ length w =
          rw (length-append (cond (eqb (x % 2) 1) (40 ∷ []) []) ((92 ∷ []) ++ (unpacked (at i).key ++ (32 ∷ 45 ∷ 62 ∷ 32 ∷ [])))) (omega arith) in
          let d = waiting.0.1 in
          let l = length-stack pending k in
          rw (q, ke) (both r (omega arith) w (record { depth = k; entry = i; turn = Leave }) pending r.list (omega arith) leave-held (omega arith) waiting.1
          (λ u. popped u ∙ ap (around ψ under) (rw f (rw v.name at (before-function (eqb (x % 2) 1) (variable_in (at i)) (ψ v.body) u))))
          (inl some))

      pub leave-call : ((at i).kind ≡ function_kind → ⊥) → (j : ℕ) → j ≡ (at i).first - 1
          → To (member_bytes (member_of_kind (at i).kind) ++ unpacked 40) (record { depth = k; entry = j; turn = Receiver }) pending
      unfolding bytes unpack_onto
      leave-call n j jk =
          let v = call-node (fine i leave-held) n (given waiting.0.2) in
          let g = v.first in
          let l = first-low i (at i) (r.table.right i leave-held) in
          let h = leave-held in
          let d = waiting.0.1 in
          let z = length-stack pending k in
          let b : j ≡ v.receiver = omega arith in
          let f : ψ i ≡ call v.member (ψ j) (ψ v.argument) = r.table.forms i leave-held ∙ rw b (v.form ψ) in
          let w : List ℕ = member_bytes (Some v.member) ++ (40 ∷ []) in
          let some : 1 ≤ length w = rw (length-append (member_bytes (Some v.member)) (40 ∷ [])) (omega arith) in
          rw v.is (both r (omega arith) w (record { depth = k; entry = j; turn = Receiver }) pending r.list (omega arith) (omega arith)
          (omega arith) waiting.1
          (λ u. popped u ∙ ap (around ψ under) (rw f (before-call (eqb (x % 2) 1) v.member (ψ j) (ψ v.argument) u)))
          (inl some))
        where
          given : Opens (at i) → 1 ≤ (at i).second
          given (inl e) = absurd (n e)
          given (inr h) = h.1

-- ---- one step, and all of them

module _ {links cells : List ℕ} {count : ℕ} {s : Spot} {pending : List ℕ} {p : Page} {r : Option Spot} {pending' : List ℕ} {p' : Page}
    (m : Moves links cells count s pending p r pending' p') where
  pub step-on : (s' : Spot) → r ≡ Some s' → Onward links cells count s pending p s' pending' p'
  step-on s' e = m.on s' e

  pub step-stop : r ≡ None → (t : List ℕ) → Spelled links cells count s pending p t → text_bytes < p.low + length t
  step-stop e = m.full e

module _ {links cells : List ℕ} {count low : ℕ} {t : List ℕ} {s : Spot} {pending : List ℕ} {p : Page} (g : Goes links cells count low t s pending p) where
  pub goes-ready : (turn_number s.turn ≡ 3 → ⊥) → Ready links cells count s pending p × (turn_number s.turn ≤ 2)
  goes-ready n = (g.ready, by s.turn n)
    where
      by : (x : Turn) → (turn_number x ≡ 3 → ⊥) → turn_number x ≤ 2
      by Enter u = omega arith
      by Receiver u = omega arith
      by Leave u = omega arith
      by Done u = absurd (u refl)

  module _ {r : Option Spot} {pending' : List ℕ} {p' : Page} (m : Moves links cells count s pending p r pending' p') where
    pub goes_on : (s' : Spot) → r ≡ Some s' → Goes links cells count low t s' pending' p'
    goes_on s' e = let x = m.on s' e in record { same = m.same ∙ g.same; ready = x.ready; spells = x.spells t g.spells; closed = x.closed }

    pub goes_none : r ≡ None → Writes low t None p'
    goes_none e = record { same = m.same ∙ g.same; top = m.top; written = λ q. cc; full = λ q. rw g.same at (m.full e t g.spells) }

  pub goes_end : turn_number s.turn ≡ 3 → Writes low t (Some tt) p
  unfolding stack around
  goes_end e =
      record {
        same = g.same;
        top = g.ready.top;
        written = λ q. record { room = rw g.same at g.ready.room; text = rw (e, g.closed e) at g.spells };
        full = λ q. cc;
      }

pub goes_start : {links cells : List ℕ} {count entry : ℕ} {pending : List ℕ} {p : Page} → Tabled links cells count → entry < count → p.at ≡ text_bytes → p.low ≤ p.at
    → length pending ≡ table_entries
    → Goes links cells count p.low (text_of (form_in links cells count entry)) (record { depth = 0; entry = entry; turn = Enter }) pending p
unfolding stack around
goes_start {links} {cells} {count} {entry} {pending} {p} t e a h l =
    let few = t.few in
    let whole = p.whole in
    record {
      same = refl;
      ready = record { table = t; list = l; room = h; top = omega arith; entry = e; depth = omega arith; waits = tt };
      spells = ap (λ (u : List ℕ). text_of (form_in links cells count entry) ++ u) (drop_of_length-le p.bytes {i = p.at} (omega arith)) ∙ append-nil (text_of (form_in links cells count entry));
      closed = λ z. absurd (omega arith);
    }

-- a page of which no byte may be written has no room for any text
pub goes_nowhere : {t : List ℕ} {p : Page} → p.at ≡ text_bytes → p.at < p.low → Writes p.low t None p
goes_nowhere a h = record { same = refl; top = omega arith; written = λ e. cc; full = λ e. omega arith }

-- a page that lies in its frame does so after a step, and when a text was written on it or had no room
pub moves-in-frame : {links cells : List ℕ} {count : ℕ} {s : Spot} {pending : List ℕ} {p : Page} {r : Option Spot} {pending' : List ℕ} {p' : Page}
    → Moves links cells count s pending p r pending' p' → InFrame p → InFrame p'
moves-in-frame m f = record { at = m.top; low = omega (arith, m.same, f.low) }

pub writes-in-frame : {low : ℕ} {t : List ℕ} {r : Option (Unit {0})} {p : Page} → low ≤ text_bytes → Writes low t r p → InFrame p
writes-in-frame l w = record { at = w.top; low = omega (arith, w.same, l) }

-- ---- what was written, as callers test it

pub was_written : {low : ℕ} {t : List ℕ} {r : Option (Unit {0})} {p : Page} → Writes low t r p → is_some r ≡ true → Written low t p
was_written {r = Some x} w e = w.written refl
was_written {r = None} w e = cc

pub was_full : {low : ℕ} {t : List ℕ} {r : Option (Unit {0})} {p : Page} → Writes low t r p → is_some r ≡ false → text_bytes < low + length t
was_full {r = Some x} w e = cc
was_full {r = None} w e = w.full refl
