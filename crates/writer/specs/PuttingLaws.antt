-- Bytes written one after the other, from right to left, are written as one piece; and the loops that write the bytes of a packed word, one by
-- one or all eight, and the digits of a number. Assumes nothing.
use Rattle.std.specs.Prelude.{◌≡◌, refl, Option, Some, None, Bool, true, false, ◌&&◌, cond, List, [], ◌∷◌, ◌++◌, leb, ltb, length, drop, set}
use Rattle.std.proofs.Common.{sym, ap, ◌∙◌, inl, inr, ⊎_elim, subst, append_assoc, arith, length-append, drop-drop}
use Rattle.std.proofs.Math.Bool.{and-eq-true_iff}
use Prim.Native.Nat.{ℕ, zero, suc, ◌+◌, ◌-◌, ◌/◌, ◌%◌, ◌^◌, ◌≤◌, ◌<◌}
use Rattle.std.proofs.Math.Nat.{pow-suc}
use borrow.Author.Tests.{ne_eqb, lt-ltb, le-ltb, ltb-true, ltb-false, lt-leb, le-leb, leb-true, leb-false}
use Rattle.language.specs.Limits.{text_bytes, name_bytes}
use Rattle.language.specs.Cases.{split}
use Rattle.language.specs.Names.{bytes, pack_onto, data_word}
use Rattle.members.specs.Members.{spelled, same_bytes, packed_name}
use Rattle.members.specs.MembersLaws.{each, same_bytes_lem}
use Rattle.members.specs.declared.Member.{Member}
use Rattle.members.specs.declared.Name.{Name}
use Rattle.layout.specs.Memory.{Node}
use Rattle.layout.specs.Nodes.{number_kind, readings_kind, number_of_key}
use Rattle.table.specs.WellFormed.{key_right}
use Rattle.printing.specs.Printed.{digits_onto, digits, decimals, unpack_onto, unpacked}
use Rattle.printing.proofs.Unpacking.{none-packed}
use Rattle.writer.specs.Whole.{whole_onto}
use Rattle.writer.specs.WholeLaws.{drop-set, append-unpacked, past-zeros}
use Rattle.writer.specs.declared.page.Page.{Page}
use Rattle.writer.specs.Putting.{stopped_at, Puts, InFrame, has_room, leaf_bytes, member_bytes, head_bytes, Unpacks, Counts}

-- nothing is written
pub puts_none : (p : Page) → p.at ≤ text_bytes → Puts [] p (Some tt) p
puts_none p t =
    record {
      same = refl;
      down = omega arith;
      written = λ _. record { top = t; room = λ r. r; size = omega arith; bytes = refl };
      full = λ e. absurd (cc);
      stopped = λ z. absurd (omega arith);
    }

-- a new page lies in its frame, and what is put leaves it there
pub new-in-frame : (most : ℕ) (p : Page) → p.low ≡ text_bytes - most → p.at ≡ text_bytes → InFrame p
new-in-frame most p l a = record { at = omega arith; low = omega arith }

pub puts-in-frame : {w : List ℕ} {p q : Page} {r : Option (Unit {0})} → Puts w p r q → InFrame p → InFrame q
puts-in-frame h f = record { at = omega (arith, h.down, f.at); low = omega (arith, h.same, f.low) }

-- nothing where the room is used up, no room for a piece, and a byte that was put
pub puts-stopped : (w : List ℕ) (p : Page) → p.at ≡ stopped_at → Puts w p None p
puts-stopped w p e = record { same = refl; down = omega arith; written = λ z. absurd (cc); full = λ z. inl e; stopped = λ z. (refl, refl) }

pub puts-full : (w : List ℕ) (p : Page) → p.at < p.low + length w → Puts w p None p
puts-full w p h = record { same = refl; down = omega arith; written = λ e. absurd (cc); full = λ e. inr h; stopped = λ z. (refl, refl) }

pub puts-byte : (b : ℕ) (p q : Page) → p.low < p.at → p.at ≤ text_bytes → q.low ≡ p.low → q.at ≡ p.at - 1 → q.bytes ≡ set p.bytes (p.at - 1) b
    → Puts (b ∷ []) p (Some tt) q
puts-byte b p q l t same a e =
    let whole = p.whole in
    let z : suc (p.at - 1) ≡ p.at = omega arith in
    record {
      same = same;
      down = omega arith;
      written = λ _.
          record {
            top = t;
            room = λ r. omega arith;
            size = omega arith;
            bytes = rw (a, e) (drop-set p.bytes (p.at - 1) b (omega arith) ∙ ap (λ k. b ∷ drop k p.bytes) z);
          };
      full = λ e. absurd (cc);
      stopped = λ z. absurd (omega arith);
    }

-- a byte that is wanted, or not
module _ (b : ℕ) (wanted : Bool) (p : Page) where
  pub puts-wanted : {r : Option (Unit {0})} {q : Page} → wanted ≡ true → Puts (b ∷ []) p r q → Puts (cond wanted (b ∷ []) []) p r q
  puts-wanted e h = rw e h

  pub puts-unwanted : wanted ≡ false → p.at ≤ text_bytes → Puts (cond wanted (b ∷ []) []) p (Some tt) p
  puts-unwanted e t = rw e (puts_none p t)

-- one piece directly before another
module _ {u : List ℕ} {p q : Page} where
  pub puts_both : {v : List ℕ} {r : Option (Unit {0})} {s : Page} → Puts u p (Some tt) q → Puts v q r s → Puts (v ++ u) p r s
  puts_both {v} {r} {s} h k =
      let a = h.written refl in
      let top = a.top in
      let d = h.down in
      record {
        same = k.same ∙ h.same;
        down = let c = k.down in omega arith;
        written = λ e.
            let b = k.written e in
            record {
              top = top;
              room = λ l. let m = h.same in let n = b.room (let o = a.room l in omega arith) in omega arith;
              size = rw (length-append v u) (omega (arith, a.size, b.size));
              bytes = b.bytes ∙ ap (λ (t : List ℕ). v ++ t) a.bytes ∙ sym (append_assoc v u (drop p.at p.bytes));
            };
        full = λ e.
            ⊎_elim (λ (z : q.at ≡ stopped_at). absurd (omega arith))
            (λ (f : q.at < q.low + length v). inr (let m = h.same in rw (length-append v u) (omega (arith, a.size)))) (k.full e);
        stopped = λ z. absurd (omega arith);
      }

  -- where there was no room for a piece, there is none for a longer one
  pub puts_longer : {w : List ℕ} → length u ≤ length w → Puts u p None q → Puts w p None q
  puts_longer l h =
      record {
        same = h.same;
        down = h.down;
        written = λ e. absurd (cc);
        full = λ e. ⊎_elim (λ z. inl z) (λ f. inr (omega arith)) (h.full e);
        stopped = h.stopped;
      }

  pub puts_more : (v : List ℕ) → Puts u p None q → Puts (v ++ u) p None q
  puts_more v h = puts_longer (rw (length-append v u) (omega arith)) h

-- the bytes of a packed word
longer-unpacked : (n k : ℕ) (u : List ℕ) → length u ≤ length (unpack_onto n k u)
longer-unpacked n k u = rw (append-unpacked n k [] u, length-append (unpack_onto n k []) u) (omega arith)

pub unpacks_start : (word : ℕ) (p : Page) → p.at ≤ text_bytes → word < 2 ^ 64 → Unpacks word p word p
unpacks_start word p t l = record { left = name_bytes; done = []; small = l; same = refl; puts = puts_none p t }

module _ {word rest : ℕ} {p q : Page} (h : Unpacks word p rest q) where
  -- what is written with the next byte is the end of the word's bytes
  next_byte : (b : ℕ) → (rest ≡ 0 → ⊥) → b ≡ rest % 256 → {r : Option (Unit {0})} {s : Page} → Puts (b ∷ []) q r s
      → (r ≡ Some tt → Unpacks word p (rest / 256) s) × (r ≡ None → Puts (unpacked word) p r s)
  unfolding unpack_onto
  next_byte b n e {r} {s} k = by h.left h.small h.same
    where
      by : (left : ℕ) → rest < 256 ^ left → unpack_onto left rest h.done ≡ unpacked word → (r ≡ Some tt → Unpacks word p (rest / 256) s) × (r ≡ None → Puts (unpacked word) p r s)
      by zero l x = absurd (omega arith)
      by (suc left) l x =
          let y : unpack_onto left (rest / 256) (b ∷ h.done) ≡ unpacked word = rw e (rw (ne_eqb rest 0 n) at x) in (
            λ z. record { left = left; done = b ∷ h.done; small = omega (arith, pow-suc 256 left); same = y; puts = rw z at (puts_both h.puts k) },
            λ z. let f : Puts (b ∷ h.done) p None s = rw z at (puts_both h.puts k) in
                rw (z, ← y) (puts_longer (longer-unpacked left (rest / 256) (b ∷ h.done)) f),
          )

  pub unpacks_byte : (b : ℕ) {s : Page} → (rest ≡ 0 → ⊥) → b ≡ rest % 256 → Puts (b ∷ []) q (Some tt) s → Unpacks word p (rest / 256) s
  unpacks_byte b n e k = (next_byte b n e k).0 refl

  pub unpacks_full : (b : ℕ) {s : Page} → (rest ≡ 0 → ⊥) → b ≡ rest % 256 → Puts (b ∷ []) q None s → Puts (unpacked word) p None s
  unpacks_full b n e k = (next_byte b n e k).1 refl

  pub unpacks_end : rest ≡ 0 → Puts (unpacked word) p (Some tt) q
  unpacks_end e = rw (← h.same, e, none-packed h.left h.done) h.puts

-- whether a whole word has room, by three tests; and what it means
pub room-few : (low at : ℕ) → at < name_bytes → false ≡ has_room low at
room-few low at h = rw (lt-leb (low + name_bytes) at (omega arith))

pub room-none : (low at : ℕ) → text_bytes < at → false ≡ has_room low at
room-none low at h = rw (lt-leb at text_bytes h) (sym (and_none (leb (low + name_bytes) at)))
  where
    and_none : (b : Bool) → (b && false) ≡ false
    and_none true = refl
    and_none false = refl

pub room-before : (low at : ℕ) → name_bytes ≤ at → at ≤ text_bytes → leb low (at - name_bytes) ≡ has_room low at
room-before low at h t =
    split (leb low (at - name_bytes))
    (λ e. let l = leb-true low (at - name_bytes) e in rw (e, le-leb (low + name_bytes) at (omega arith), le-leb at text_bytes t))
    (λ e. let l = leb-false low (at - name_bytes) e in rw (e, lt-leb (low + name_bytes) at (omega arith)))

pub room-is : (low at : ℕ) (r : Bool) → r ≡ has_room low at → r ≡ true → (low + name_bytes ≤ at) × (at ≤ text_bytes)
room-is low at r e t =
    let p = (and-eq-true_iff (leb (low + name_bytes) at) (leb at text_bytes)).0 (sym e ∙ t) in
    (leb-true (low + name_bytes) at p.0, leb-true at text_bytes p.1)

-- all eight of them at once
pub puts_whole : (word r : ℕ) (p q : Page) → q.low ≡ p.low → p.low + name_bytes ≤ p.at → p.at ≤ text_bytes → q.at ≡ p.at - r
    → r ≡ length (unpacked word) → r ≤ name_bytes
    → drop (p.at - name_bytes) q.bytes ≡ whole_onto name_bytes word (drop (p.at - name_bytes + name_bytes) p.bytes) → Puts (unpacked word) p (Some tt) q
puts_whole word r p q same h t a e s k =
    let u : List ℕ = drop (p.at - name_bytes + name_bytes) p.bytes in
    let z : q.at ≡ p.at - name_bytes + (name_bytes - r) = omega arith in
    let z' : p.at - name_bytes + name_bytes ≡ p.at = omega arith in
    record {
      same = same;
      down = omega arith;
      written = λ _. record {
        top = t;
        room = λ _. omega arith;
        size = omega arith;
        bytes =
            ap (λ k. drop k q.bytes) z ∙ sym (drop-drop (name_bytes - r) (p.at - name_bytes) q.bytes) ∙ ap (drop (name_bytes - r)) k
            ∙ ap (λ k. drop (name_bytes - k) (whole_onto name_bytes word u)) e ∙ past-zeros name_bytes word u
            ∙ append-unpacked name_bytes word [] u ∙ ap (λ k. unpacked word ++ drop k p.bytes) z';
      };
      full = λ e. absurd (cc);
      stopped = λ y. absurd (omega arith);
    }

-- the digits of a number
longer-digits : (n k : ℕ) (u : List ℕ) → length u ≤ length (digits_onto n k u)
unfolding digits_onto
longer-digits zero k u = omega arith
longer-digits (suc n) k u =
    let i = longer-digits n (k / 10) ((48 + k % 10) ∷ u) in
    split (ltb k 10) (λ e. rw e (omega arith)) (λ e. rw e (omega arith))

pub counts_start : (n : ℕ) (p : Page) → n < 2 ^ 32 → Counts n p n p
counts_start n p l = record { left = 9; done = []; small = omega arith; same = refl; puts = λ t. puts_none p t; stopped = λ _. refl }

module _ {n rest : ℕ} {p q : Page} (h : Counts n p rest q) where
  -- a digit more; where the room was used up before the first one, none
  digit_more : {b : ℕ} {r : Option (Unit {0})} {s : Page} → Puts (b ∷ []) q r s → Puts (b ∷ h.done) p r s
  digit_more {b} {r} {s} k =
      split (ltb p.at stopped_at)
      (λ l. puts_both (h.puts (let z = ltb-true p.at stopped_at l in omega arith)) k)
      (λ l.
      let e : p.at ≡ stopped_at = let z = ltb-false p.at stopped_at l in let i = p.inside in omega arith in
      let u : Puts (b ∷ []) p r s = subst (λ x. Puts (b ∷ []) x r s) (h.stopped e) k in
      rw ((u.stopped e).0, (u.stopped e).1) (puts-stopped (b ∷ h.done) p e))

  next_digit : (b : ℕ) → 10 ≤ rest → b ≡ 48 + rest % 10 → {r : Option (Unit {0})} {s : Page} → Puts (b ∷ []) q r s
      → (r ≡ Some tt → Counts n p (rest / 10) s) × (r ≡ None → Puts (digits n) p r s)
  unfolding digits_onto
  next_digit b l e {r} {s} k = by h.left h.small h.same
    where
      by : (left : ℕ) → rest < 10 ^ suc left → digits_onto (suc left) rest h.done ≡ digits n → (r ≡ Some tt → Counts n p (rest / 10) s) × (r ≡ None → Puts (digits n) p r s)
      by zero m x = absurd (omega arith)
      by (suc left) m x =
          let y : digits_onto (suc left) (rest / 10) (b ∷ h.done) ≡ digits n = rw e (rw (le-ltb rest 10 l) at x) in (
            λ z.
                let f : Puts (b ∷ h.done) p (Some tt) s = rw z at (digit_more k) in
                let t = (f.written refl).top in
                record {
                  left = left;
                  done = b ∷ h.done;
                  small = omega (arith, pow-suc 10 (suc left));
                  same = y;
                  puts = λ _. f;
                  stopped = λ e. absurd (omega arith);
                },
            λ z. let f : Puts (b ∷ h.done) p None s = rw z at (digit_more k) in
                rw (z, ← y) (puts_longer (longer-digits (suc left) (rest / 10) (b ∷ h.done)) f),
          )

  pub counts_digit : (b : ℕ) {s : Page} → 10 ≤ rest → b ≡ 48 + rest % 10 → Puts (b ∷ []) q (Some tt) s → Counts n p (rest / 10) s
  counts_digit b l e k = (next_digit b l e k).0 refl

  pub counts_full : (b : ℕ) {s : Page} → 10 ≤ rest → b ≡ 48 + rest % 10 → Puts (b ∷ []) q None s → Puts (digits n) p None s
  counts_full b l e k = (next_digit b l e k).1 refl

  pub counts_end : (b : ℕ) {r : Option (Unit {0})} {s : Page} → rest < 10 → b ≡ 48 + rest → Puts (b ∷ []) q r s → Puts (digits n) p r s
  unfolding digits_onto
  counts_end b l e k =
      let x : (48 + rest) ∷ h.done ≡ digits n = rw (lt-ltb rest 10 l) at h.same in
      rw (← x, ← e) (digit_more k)

-- a number by its key
pub negative-bytes : (key : ℕ) → key < 2147483648 → decimals (number_of_key key) ≡ (45 ∷ []) ++ digits (2147483648 - key)
unfolding decimals
negative-bytes key h =
    let z : suc (2147483648 - suc key) ≡ 2147483648 - key = omega arith in
    rw (lt-ltb key 2147483648 h) (ap (λ (k : ℕ). 45 ∷ digits k) z)

pub natural-bytes : (key : ℕ) → 2147483648 ≤ key → decimals (number_of_key key) ≡ digits (key - 2147483648)
unfolding decimals
natural-bytes key h = rw (le-ltb key 2147483648 h)

module _ {key : ℕ} {p q : Page} where
  pub puts_negative : {r : Option (Unit {0})} {s : Page} → key < 2147483648 → Puts (digits (2147483648 - key)) p (Some tt) q → Puts (45 ∷ []) q r s
      → Puts (decimals (number_of_key key)) p r s
  puts_negative h a b = rw (negative-bytes key h) (puts_both a b)

  pub no_negative : key < 2147483648 → Puts (digits (2147483648 - key)) p None q → Puts (decimals (number_of_key key)) p None q
  no_negative h a = rw (negative-bytes key h) (puts_more (45 ∷ []) a)

  pub puts_natural : {r : Option (Unit {0})} → 2147483648 ≤ key → Puts (digits (key - 2147483648)) p r q → Puts (decimals (number_of_key key)) p r q
  puts_natural h a = rw (natural-bytes key h) a

-- the entries that are no function and no member
module _ (n : Node) where
  pub number_small : key_right n ≡ true → n.kind ≡ number_kind → n.key < 2 ^ 32
  unfolding key_right
  number_small r e = ltb-true n.key (2 ^ 32) (rw e at r)

  module _ {p q : Page} {r : Option (Unit {0})} where
    pub puts_number : n.kind ≡ number_kind → Puts (decimals (number_of_key n.key)) p r q → Puts (leaf_bytes n) p r q
    unfolding leaf_bytes
    puts_number e h = rw e h

    pub puts_readings : n.kind ≡ readings_kind → Puts (unpacked 1684108385) p r q → Puts (leaf_bytes n) p r q
    unfolding leaf_bytes data_word bytes unpack_onto
    puts_readings e h = rw e h

    pub puts_name : (n.kind ≡ number_kind → ⊥) → (n.kind ≡ readings_kind → ⊥) → Puts (unpacked n.key) p r q → Puts (leaf_bytes n) p r q
    unfolding leaf_bytes
    puts_name a b h = rw (ne_eqb n.kind number_kind a, ne_eqb n.kind readings_kind b) h

-- a member's name is packed in two numbers
abbrev two_words : Member → List ℕ
two_words m = unpacked (packed_name (spelled m)).0 ++ unpacked (packed_name (spelled m)).1

pub name-bytes : (m : Member) → two_words m ≡ spelled m
unfolding packed_name pack_onto unpack_onto same_bytes spelled bytes
name-bytes m = (same_bytes_lem (two_words m) (spelled m)).0 (each (λ k. same_bytes (two_words k) (spelled k)) refl m)

pub puts_unknown : {f : Option Member} {u : List ℕ} {p q : Page} → f ≡ None → Puts u p (Some tt) q → Puts (member_bytes f ++ u) p (Some tt) q
unfolding member_bytes
puts_unknown e h = rw e h

module _ (u : List ℕ) (f : Option Member) (m : Member) (name : Name) (e : f ≡ Some m) (is : name ≡ packed_name (spelled m)) where
  same : member_bytes f ++ u ≡ (46 ∷ []) ++ (unpacked name.0 ++ (unpacked name.1 ++ u))
  unfolding member_bytes bytes
  same =
      let n : unpacked name.0 ++ unpacked name.1 ≡ spelled m = rw is (name-bytes m) in
      rw (e, ← append_assoc (unpacked name.0) (unpacked name.1) u, n)

  module _ {p q q₁ : Page} (h : Puts u p (Some tt) q) where
    pub no_back : Puts (unpacked name.1) q None q₁ → Puts (member_bytes f ++ u) p None q₁
    no_back a = rw same (puts_more (46 ∷ []) (puts_more (unpacked name.0) (puts_both h a)))

    pub no_front : Puts (unpacked name.1) q (Some tt) q₁ → {q₂ : Page} → Puts (unpacked name.0) q₁ None q₂ → Puts (member_bytes f ++ u) p None q₂
    no_front a b = rw same (puts_more (46 ∷ []) (puts_both (puts_both h a) b))

    pub puts_member : Puts (unpacked name.1) q (Some tt) q₁ → {q₂ : Page} → Puts (unpacked name.0) q₁ (Some tt) q₂
        → {r : Option (Unit {0})} {q₃ : Page} → Puts (46 ∷ []) q₂ r q₃ → Puts (member_bytes f ++ u) p r q₃
    puts_member a b c = rw same (puts_both (puts_both (puts_both h a) b) c)

-- what stands before a function's body
abbrev pub bracket : Bool → List ℕ
bracket x = cond x (40 ∷ []) []

module _ (x : Bool) (name : ℕ) where
  head : head_bytes x name ≡ bracket x ++ ((92 ∷ []) ++ (unpacked name ++ unpacked 539835936))
  unfolding head_bytes bytes unpack_onto
  head = refl

  module _ {p q : Page} where
    pub no_arrow : Puts (unpacked 539835936) p None q → Puts (head_bytes x name) p None q
    no_arrow a = rw head (puts_more (bracket x) (puts_more (92 ∷ []) (puts_more (unpacked name) a)))

    module _ (a : Puts (unpacked 539835936) p (Some tt) q) {q₁ : Page} where
      pub no_name : Puts (unpacked name) q None q₁ → Puts (head_bytes x name) p None q₁
      no_name b = rw head (puts_more (bracket x) (puts_more (92 ∷ []) (puts_both a b)))

      module _ (b : Puts (unpacked name) q (Some tt) q₁) {q₂ : Page} where
        pub no_lambda : Puts (92 ∷ []) q₁ None q₂ → Puts (head_bytes x name) p None q₂
        no_lambda c = rw head (puts_more (bracket x) (puts_both (puts_both a b) c))

        pub puts_head : Puts (92 ∷ []) q₁ (Some tt) q₂ → {r : Option (Unit {0})} {q₃ : Page} → Puts (bracket x) q₂ r q₃ → Puts (head_bytes x name) p r q₃
        puts_head c d = rw head (puts_both (puts_both (puts_both a b) c) d)
