-- The member table: each member has one number and one name, both are its own.
-- Assumes nothing.
use Rattle.std.specs.Prelude.{Option, Some, None}
use Rattle.std.proofs.lemmas.Bool.{false≢true}
use Rattle.std.specs.Prelude.{◌≡◌, Bool, true, false, ◌&&◌, cond, List, [], ◌∷◌, ◌++◌, map, ◌↔◌, ℕ, zero, suc, ◌+◌, ◌-◌, ◌≤◌, ◌<◌, min, eqb, leb, ltb, length, get_or, take, drop}
use Rattle.std.proofs.Math.Path.{refl, sym, subst}
use Rattle.std.proofs.Common.{ap, ◌∙◌, add-zero, zero-add, add-suc, suc-add, add-one, arith, drop_of_length-le, take_all}
use Rattle.std.proofs.Math.Bool.{and-eq-true_iff}
use Rattle.std.proofs.Math.Decide.{dec_lt}
use mathlib.Mathlib.Data.Bool.Basic.{eq-false-eq-not-eq-true}
use Rattle.std.proofs.Math.ListN.{length-take, length-drop, take-append-drop}
use borrow.Author.Tests.{eqb-true, eq-eqb, ne_eqb, leb-true, ltb-true}
use Rattle.language.specs.Cases.{split}
use Rattle.language.specs.Limits.{name_bytes}
use Rattle.language.specs.Names.{bytes, pack_onto, packed}
use Rattle.language.specs.NamesLaws.{Each, Byte, packed-same}
use Rattle.members.specs.Members.{arguments, spelled, members, member_number, if_member, member_at, same_bytes, named_in, member_of, longest_name, packed_name, same_packed}
use Rattle.members.specs.declared.Member.{Member}
use Rattle.members.specs.declared.Member.TheVariants.{Add, Sub, Mul, Div, Gt, Eq, Skip, Take, Count, Sum, Min, Max, At, CountWhere, LongestRun, SumBy, BestSum, BestAt}
use Rattle.members.specs.declared.Name.{Name}

-- ---- a test that passes at every entry of a table

module _ {A : Type 0} (f : ℕ → A → Bool) where
  -- the entries' places are counted from i
  abbrev passes : ℕ → List A → Bool
  passes i [] = true
  passes i (x ∷ xs) = f i x && passes (suc i) xs

  passes-from : (d : A) (xs : List A) (i k : ℕ) → passes i xs ≡ true → k < length xs → f (i + k) (get_or xs k d) ≡ true
  passes-from d [] i k t h = absurd (omega arith)
  passes-from d (x ∷ xs) i zero t h = rw add-zero ((and-eq-true_iff (f i x) (passes (suc i) xs)).0 t).0
  passes-from d (x ∷ xs) i (suc k) t h =
      rw (add-suc, ← suc-add) (passes-from d xs (suc i) k ((and-eq-true_iff (f i x) (passes (suc i) xs)).0 t).1 (omega arith))

  passes_at : (d : A) (xs : List A) → passes 0 xs ≡ true → (k : ℕ) → k < length xs → f k (get_or xs k d) ≡ true
  passes_at d xs t k h = rw zero-add at (passes-from d xs 0 k t h)

-- ---- a number that is none of the first k
abbrev pub NoneOf : ℕ → ℕ → Type 0
NoneOf zero n = Unit {0}
NoneOf (suc k) n = NoneOf k n × (n ≡ k → ⊥)

pub none_of : (k n : ℕ) → NoneOf k n → k ≤ n
none_of zero n h = omega arith
none_of (suc k) n h = omega (arith, none_of k n h.0)

-- ---- numbers

pub number-found : (m : Member) → member_at (member_number m) ≡ Some m
unfolding member_at
number-found Add = refl
number-found Sub = refl
number-found Mul = refl
number-found Div = refl
number-found Gt = refl
number-found Eq = refl
number-found Skip = refl
number-found Take = refl
number-found Count = refl
number-found Sum = refl
number-found Min = refl
number-found Max = refl
number-found At = refl
number-found CountWhere = refl
number-found LongestRun = refl
number-found SumBy = refl
number-found BestSum = refl
number-found BestAt = refl

pub number_at : (m : Member) (n : ℕ) → n ≡ member_number m → Some m ≡ member_at n
number_at m n e = sym (number-found m) ∙ ap member_at (sym e)

pub number-injective : (m k : Member) → member_number m ≡ member_number k → m ≡ k
number-injective m k e = cc (number-found m, number-found k)

-- the member of a number, in a list of members
abbrev pub found_in : List Member → ℕ → Option Member
found_in ms n = get_or (map Some ms) n None

found_inside : (ms : List Member) (n : ℕ) (m : Member) → found_in ms n ≡ Some m → (n < length ms) × (get_or ms n Add ≡ m)
found_inside [] n m e = let z : ◌≡◌ {A = ℕ} 0 1 = cc in absurd (omega arith)
found_inside (k ∷ ms) zero m e = (omega arith, cc)
found_inside (k ∷ ms) (suc n) m e = let h = found_inside ms n m e in (omega arith, h.1)

pub number-below : (m : Member) → member_number m < length members
unfolding member_at
number-below m = (found_inside members (member_number m) m (number-found m)).0

found-beyond : (ms : List Member) (n : ℕ) → length ms ≤ n → found_in ms n ≡ None
found-beyond [] n h = refl
found-beyond (k ∷ ms) zero h = absurd (omega arith)
found-beyond (k ∷ ms) (suc n) h = found-beyond ms n (omega arith)

pub number-beyond : (n : ℕ) → length members ≤ n → member_at n ≡ None
unfolding member_at
number-beyond n h = found-beyond members n h

pub number-row : (m : Member) → get_or members (member_number m) Add ≡ m
unfolding member_at
number-row m = (found_inside members (member_number m) m (number-found m)).1

-- a test that passes in the table passes for every member
pub each : (p : Member → Bool) → passes (λ i m. p m) 0 members ≡ true → (m : Member) → p m ≡ true
each p t m = rw (number-row m) at (passes_at (λ i k. p k) Add members t (member_number m) (number-below m))

-- no member takes more than one argument
pub few-arguments : (m : Member) → arguments m ≤ 1
unfolding arguments spelled
few-arguments m = leb-true (arguments m) 1 (each (λ k. leb (arguments k) 1) refl m)

-- ---- names

same_refl : (w : List ℕ) → same_bytes w w ≡ true
unfolding same_bytes
same_refl [] = refl
same_refl (b ∷ w) = rw (eq-eqb b b refl, same_refl w)

same-equal : (v w : List ℕ) → same_bytes v w ≡ true → v ≡ w
unfolding same_bytes
same-equal [] [] e = refl
same-equal [] (b ∷ w) e = cc
same-equal (a ∷ v) [] e = cc
same-equal (a ∷ v) (b ∷ w) e =
    let h = (and-eq-true_iff (eqb a b) (same_bytes v w)).0 e in
    cc (eqb-true a b h.0, same-equal v w h.1)

pub same_bytes_lem : (v w : List ℕ) → (same_bytes v w ≡ true) ↔ (v ≡ w)
same_bytes_lem v w = (same-equal v w, λ e. rw e (same_refl w))

pub other-bytes : (v w : List ℕ) → (v ≡ w → ⊥) → same_bytes v w ≡ false
other-bytes v w h = (eq-false-eq-not-eq-true (same_bytes v w)).0 (λ e. h (same-equal v w e))

is_member : Member → Option Member → Bool
is_member m (Some k) = eqb (member_number k) (member_number m)
is_member m None = false

is_member_lem : (m : Member) (f : Option Member) → is_member m f ≡ true → f ≡ Some m
unfolding is_member
is_member_lem m (Some k) e = ap Some (number-injective k m (eqb-true (member_number k) (member_number m) e))
is_member_lem m None e = cc

pub name-found : (m : Member) → member_of (spelled m) ≡ Some m
unfolding is_member member_of named_in same_bytes arguments spelled bytes
name-found m = is_member_lem m (member_of (spelled m)) (each (λ k. is_member k (member_of (spelled k))) refl m)

picked : (b : Bool) (k m : Member) (f : Option Member) (w : List ℕ) → same_bytes w (spelled k) ≡ b → (f ≡ Some m → w ≡ spelled m) → cond b (Some k) f ≡ Some m → w ≡ spelled m
picked true k m f w s h e = cc (same-equal w (spelled k) s)
picked false k m f w s h e = h e

named-in : (ms : List Member) (w : List ℕ) (m : Member) → named_in ms w ≡ Some m → w ≡ spelled m
unfolding named_in
named-in [] w m e = cc
named-in (k ∷ ms) w m e = picked (same_bytes w (spelled k)) k m (named_in ms w) w refl (named-in ms w m) e

pub name-own : (w : List ℕ) (m : Member) → member_of w ≡ Some m → w ≡ spelled m
unfolding member_of
name-own w m e = named-in members w m e

-- ---- the search for a name, row by row

-- the word is the name of the member that was found
abbrev names_it : List ℕ → Option Member → Bool
names_it w f = if_member false f (λ m. same_bytes w (spelled m))

rest-row : (ms : List Member) (n : ℕ) (w : List ℕ) → n < length ms
    → named_in (drop n ms) w ≡ cond (names_it w (found_in ms n)) (found_in ms n) (named_in (drop (suc n) ms) w)
unfolding named_in
rest-row [] n w h = absurd (omega arith)
rest-row (m ∷ ms) zero w h = refl
rest-row (m ∷ ms) (suc n) w h = rest-row ms n w (omega arith)

row-none : (n : ℕ) (w : List ℕ) → length members ≤ n → named_in (drop n members) w ≡ None
unfolding named_in
row-none n w h = rw (drop_of_length-le members h)

-- ---- packed names: two words of bytes have one packed name exactly if they are one word

-- of two words of one length the numbers tell
pub packed-tells : (v w : List ℕ) → Each Byte v → Each Byte w → length v ≡ length w → eqb (packed v) (packed w) ≡ same_bytes v w
packed-tells v w hv hw l =
    split (same_bytes v w)
    (λ e. eq-eqb (packed v) (packed w) (ap packed (same-equal v w e)) ∙ sym e)
    (λ e. ne_eqb (packed v) (packed w) (λ q. absurd (false≢true (sym e ∙ (same_bytes_lem v w).1 (packed-same v w hv hw l q)))) ∙ sym e)

bytes_take : (n : ℕ) (w : List ℕ) → Each Byte w → Each Byte (take n w)
bytes_take zero w h = tt
bytes_take (suc n) [] h = tt
bytes_take (suc n) (b ∷ w) h = (h.0, bytes_take n w h.1)

bytes_drop : (n : ℕ) (w : List ℕ) → Each Byte w → Each Byte (drop n w)
bytes_drop zero w h = h
bytes_drop (suc n) [] h = tt
bytes_drop (suc n) (b ∷ w) h = bytes_drop n w h.1

module _ (v w : List ℕ) (hv : Each Byte v) (hw : Each Byte w) where
  packed-one : same_packed (packed_name v) (packed_name w) ≡ true → v ≡ w
  unfolding packed_name
  packed-one e =
      let h = (and-eq-true_iff (eqb (packed (take 8 v)) (packed (take 8 w))) _).0 e in
      let k = (and-eq-true_iff (eqb (packed (drop 8 v)) (packed (drop 8 w))) _).0 h.1 in
      let l = eqb-true (length v) (length w) k.1 in
      let front = packed-same (take 8 v) (take 8 w) (bytes_take 8 v hv) (bytes_take 8 w hw) (rw (length-take, length-take, l)) (eqb-true _ _ h.0) in
      let back = packed-same (drop 8 v) (drop 8 w) (bytes_drop 8 v hv) (bytes_drop 8 w hw) (rw (length-drop, length-drop, l)) (eqb-true _ _ k.0) in
      sym (take-append-drop 8 v) ∙ (λ i. front i ++ back i) ∙ take-append-drop 8 w

  packed-itself : v ≡ w → same_packed (packed_name v) (packed_name w) ≡ true
  unfolding packed_name
  packed-itself e = rw (e, eq-eqb (packed (take 8 w)) _ refl, eq-eqb (packed (drop 8 w)) _ refl, eq-eqb (length w) (length w) refl)

  packed-bytes : same_packed (packed_name v) (packed_name w) ≡ same_bytes v w
  packed-bytes =
      split (same_bytes v w)
      (λ e. packed-itself (same-equal v w e) ∙ sym e)
      (λ e. (eq-false-eq-not-eq-true _).0 (λ p. absurd (false≢true (sym e ∙ (same_bytes_lem v w).1 (packed-one p)))) ∙ sym e)

are_bytes : List ℕ → Bool
are_bytes [] = true
are_bytes (b ∷ w) = ltb b 256 && are_bytes w

are-bytes : (w : List ℕ) → are_bytes w ≡ true → Each Byte w
unfolding are_bytes
are-bytes [] e = tt
are-bytes (b ∷ w) e = let h = (and-eq-true_iff (ltb b 256) (are_bytes w)).0 e in (ltb-true b 256 h.0, are-bytes w h.1)

name-bytes : (m : Member) → Each Byte (spelled m)
unfolding are_bytes spelled bytes
name-bytes m = are-bytes (spelled m) (each (λ k. are_bytes (spelled k)) refl m)

-- no member has a longer name
name-short : (m : Member) → length (spelled m) ≤ longest_name
unfolding spelled bytes
name-short m = leb-true (length (spelled m)) longest_name (each (λ k. leb (length (spelled k)) longest_name) refl m)

pub none-longer : (w : List ℕ) → longest_name < length w → member_of w ≡ None
none-longer w h = by (member_of w) refl
  where
    by : (f : Option Member) → member_of w ≡ f → f ≡ None
    by (Some m) e = absurd (omega (arith, name-short m, ap length (name-own w m e)))
    by None e = refl

-- ---- how a word's packed name is made

pub short-name : (w : List ℕ) (r : ℕ) → length w ≤ name_bytes → (r ≡ packed w) × Each Byte w
    → (◌≡◌ {A = Name} (r, 0, length w) (packed_name w)) × Each Byte w
unfolding packed_name pack_onto
short-name w r l h = (rw (take_all 8 w l, drop_of_length-le w l, h.0), h.1)

bytes-joined : (v w : List ℕ) → Each Byte v → Each Byte w → Each Byte (v ++ w)
bytes-joined [] w hv hw = hw
bytes-joined (b ∷ v) w hv hw = (hv.0, bytes-joined v w hv.1 hw)

pub long-name : (w : List ℕ) (r s : ℕ) → (r ≡ packed (take 8 w)) × Each Byte (take 8 w)
    → (s ≡ packed (take (length w - 8) (drop 8 w))) × Each Byte (take (length w - 8) (drop 8 w))
    → (◌≡◌ {A = Name} (r, s, length w) (packed_name w)) × Each Byte w
unfolding packed_name
long-name w r s h k =
    let rest : take (length w - 8) (drop 8 w) ≡ drop 8 w = take_all (length w - 8) (drop 8 w) (omega (arith, length-drop 8 w)) in
    let b : Each Byte (drop 8 w) = rw rest at k.1 in
    (rw (h.0, k.0, rest), rw take-append-drop at (bytes-joined (take 8 w) (drop 8 w) h.1 b))

-- the word is cut behind its eighth byte, or at its end
module _ (w : List ℕ) (n : ℕ) (h : n ≡ min (length w) name_bytes) where
  front : take n w ≡ take name_bytes w
  front = elim (dec_lt (length w) name_bytes) [
    | yes lt ↦ take_all n w (omega arith) ∙ sym (take_all name_bytes w (omega arith))
    | no ge ↦ let e : n ≡ name_bytes = omega arith in ap (λ (k : ℕ). take k w) e
  ]

  back : drop n w ≡ drop name_bytes w
  back = elim (dec_lt (length w) name_bytes) [
    | yes lt ↦ drop_of_length-le w {i = n} (omega arith) ∙ sym (drop_of_length-le w {i = name_bytes} (omega arith))
    | no ge ↦ let e : n ≡ name_bytes = omega arith in ap (λ (k : ℕ). drop k w) e
  ]

  pub cut_name : (v u : List ℕ) (r s : ℕ) → v ≡ take n w → u ≡ drop n w → (r ≡ packed v) × Each Byte v → (s ≡ packed u) × Each Byte u
      → (◌≡◌ {A = Name} (r, s, length w) (packed_name w)) × Each Byte w
  unfolding packed_name
  cut_name v u r s e d p q =
      (rw (p.0, q.0, e, d, front, back), rw take-append-drop at (bytes-joined (take n w) (drop n w) (subst (Each Byte) e p.1) (subst (Each Byte) d q.1)))

-- ---- a packed name against a row

module _ (n : ℕ) (x : Name) (f : Option Member) (at : f ≡ member_at n) where
  pub named-known : (m : Member) (y : Name) (r : Bool) → f ≡ Some m → y ≡ packed_name (spelled m) → r ≡ same_packed x y
      → r ≡ if_member false (member_at n) (λ k. same_packed x (packed_name (spelled k)))
  named-known m y r e q p = p ∙ rw (q, ← at, e)

  pub named_none : f ≡ None → false ≡ if_member false (member_at n) (λ k. same_packed x (packed_name (spelled k)))
  named_none e = rw (← at, e)

module _ (n : ℕ) (w : List ℕ) (h : n < length members) where
  row-yes : names_it w (member_at n) ≡ true → member_at n ≡ named_in (drop n members) w
  unfolding member_at
  row-yes t = rw (rest-row members n w h, t)

  row-no : names_it w (member_at n) ≡ false → named_in (drop (n + 1) members) w ≡ named_in (drop n members) w
  unfolding member_at
  row-no t = rw (add-one, rest-row members n w h, t)

module _ (n : ℕ) (w : List ℕ) (x : Name) (is : (x ≡ packed_name w) × Each Byte w) (r : Bool)
    (e : r ≡ if_member false (member_at n) (λ m. same_packed x (packed_name (spelled m)))) where
  named-row : r ≡ names_it w (member_at n)
  named-row = e ∙ by (member_at n)
    where
      by : (f : Option Member) → if_member false f (λ m. same_packed x (packed_name (spelled m))) ≡ names_it w f
      by (Some m) = ap (λ (y : Name). same_packed y (packed_name (spelled m))) is.0 ∙ packed-bytes w (spelled m) is.1 (name-bytes m)
      by None = refl

  module _ (h : n < length members) where
    pub row_is : r ≡ true → member_at n ≡ named_in (drop n members) w
    row_is t = row-yes n w h (sym named-row ∙ t)

    pub row-not : r ≡ false → named_in (drop (n + 1) members) w ≡ named_in (drop n members) w
    row-not t = row-no n w h (sym named-row ∙ t)

-- a row that was looked up: there is none, or it is a member's
module _ (n : ℕ) (w : List ℕ) (h : n < length members) (f : Option Member) (at : f ≡ member_at n) where
  pub row-missing : f ≡ None → named_in (drop (n + 1) members) w ≡ named_in (drop n members) w
  row-missing e = row-no n w h (ap (names_it w) (sym at ∙ e))

  module _ (x : Name) (is : (x ≡ packed_name w) × Each Byte w) (m : Member) (e : f ≡ Some m) (r : Bool) (p : r ≡ same_packed x (packed_name (spelled m))) where
    known : r ≡ if_member false (member_at n) (λ k. same_packed x (packed_name (spelled k)))
    known = named-known n x f at m (packed_name (spelled m)) r e refl p

    pub row-found : r ≡ true → Some m ≡ named_in (drop n members) w
    row-found t = sym e ∙ at ∙ row_is n w x is r known h t

    pub row-other : r ≡ false → named_in (drop (n + 1) members) w ≡ named_in (drop n members) w
    row-other t = row-not n w x is r known h t

-- behind the last row there is none
pub row-over : (n : ℕ) (w : List ℕ) (f : Option Member) → length members ≤ n → named_in (drop n members) w ≡ f → None ≡ f
row-over n w f h e = sym (row-none n w h) ∙ e
