-- Binding in the call's frame is binding by the definition. Assumes nothing.
use Rattle.std.specs.Prelude.{◌≡◌, refl, true, cond, Option, None, Some, List, [], ◌∷◌, ◌++◌, ℕ, zero, suc, ◌+◌, ◌-◌, ◌*◌, ◌/◌, ◌%◌, ◌≤◌, ◌<◌, eqb, ltb, length, get_or, set, take, drop}
use Rattle.std.proofs.lemmas.Bool.{false≢true}
use Rattle.std.proofs.Common.{sym, ap, ◌∙◌, arith, ne_eqb, lt-ltb, le-ltb, get_or-take, take-suc-set, length-take-le, drop_at}
use Rattle.std.specs.Option.{is_some, unwrap_or}
use Rattle.std.proofs.Math.Decide.{dec_lt}
use borrow.Author.Tests.{eqb-false}
use Rattle.language.specs.Cases.{split}
use Rattle.std.proofs.Math.Nat.{sub-zero}
use Rattle.std.proofs.Math.Numerals.{add-one}
use Rattle.std.proofs.Math.ListN.{length-set, get_or-eq_default}
use Rattle.std.proofs.Math.Seq.{get_or-set_same, get_or-set_other}
use Rattle.language.specs.Limits.{text_parts, table_entries}
use Rattle.layout.specs.Nodes.{same_node}
use Rattle.layout.specs.Memory.{Node, node_at, node_with}
use Rattle.table.specs.WellFormed.{distinct}
use Rattle.model.specs.Lists.{index}
use Rattle.table.specs.Bind.{relinked, relink, Bound, bind_one, bind_all}
use Rattle.layout.specs.Numbered.{numbered}
use Rattle.table.specs.RightLaws.{left-suc}
use Rattle.layout.specs.Held.{shaped, word_in, fresh_at, record_at, held_at, with_fresh, kind_base, entry_base, text_words}
use Rattle.table.specs.Chain.{hash_of, last_same, number_before, Chained, linked}
use Rattle.table.specs.ChainLaws.{numbered-zero, numbered-last, numbered-agree, length-numbered, distinct_snoc, has_last, last-le, find-last, hash-low, chained_more, chained-agree, held-front}
use Rattle.binder.specs.Records.{bound, bound_now, Ready, BoundOne, BoundAll}
use Rattle.layout.specs.declared.nodes.Shape.{Shape}

-- the word of a node that waits, taken apart again
module _ (n : Node) (k : n.kind < kind_base) (f : n.first < entry_base) (s : n.second < entry_base) where
  word-kind : word_in entry_base n % kind_base ≡ n.kind
  word-kind = omega arith

  word_first : word_in entry_base n / kind_base % entry_base ≡ n.first
  word_first = omega arith

  word-second : word_in entry_base n / (kind_base * entry_base) % entry_base ≡ n.second
  word-second = omega arith

  word-level : n.level < entry_base → word_in entry_base n / (kind_base * entry_base * entry_base) % entry_base ≡ n.level
  word-level l = omega arith

-- nodes that wait
module _ (fresh : List ℕ) (i : ℕ) (n : Node) where
  pub fresh-same : n.kind < kind_base → n.first < entry_base → n.second < entry_base → n.level < entry_base → 2 * i + 1 < length fresh
      → fresh_at (with_fresh fresh i n) i ≡ n
  unfolding fresh_at with_fresh
  fresh-same hk hf hs hl l =
      let y = length-set fresh (2 * i) (word_in entry_base n) in
      rw (
        get_or-set_other (set fresh (2 * i) (word_in entry_base n)) (2 * i + 1) (2 * i) n.key 0 (λ e. omega arith),
        get_or-set_same (set fresh (2 * i) (word_in entry_base n)) (2 * i + 1) n.key 0 (omega arith),
        get_or-set_same fresh (2 * i) (word_in entry_base n) 0 (omega arith),
        word-kind n hk hf hs,
        word_first n hk hf hs,
        word-second n hk hf hs,
        word-level n hk hf hs hl,
      )

  word-other : (k : ℕ) → (k ≡ 2 * i → ⊥) → (k ≡ 2 * i + 1 → ⊥) → get_or (with_fresh fresh i n) k 0 ≡ get_or fresh k 0
  unfolding with_fresh
  word-other k u v =
      let word = word_in entry_base n in
      get_or-set_other (set fresh (2 * i) word) (2 * i + 1) k n.key 0 (λ e. v (omega arith)) ∙ get_or-set_other fresh (2 * i) k word 0 (λ e. u (omega arith))

  -- another place keeps its two words, as a node that waits and as a record
  module _ (j : ℕ) (u : j ≡ i → ⊥) where
    first-other : get_or (with_fresh fresh i n) (2 * j) 0 ≡ get_or fresh (2 * j) 0
    first-other = word-other (2 * j) (λ e. u (omega arith)) (λ e. omega arith)

    key-other : get_or (with_fresh fresh i n) (2 * j + 1) 0 ≡ get_or fresh (2 * j + 1) 0
    key-other = word-other (2 * j + 1) (λ e. omega arith) (λ e. u (omega arith))

    fresh-other : fresh_at (with_fresh fresh i n) j ≡ fresh_at fresh j
    unfolding fresh_at
    fresh-other = rw (first-other, key-other)

    record-other : record_at (with_fresh fresh i n) j ≡ record_at fresh j
    unfolding record_at
    record-other = rw (first-other, key-other)

module _ (links cells : List ℕ) (count : ℕ) where
  held_back : (fresh : List ℕ) (j : ℕ) → count ≤ j → held_at links cells count fresh j ≡ fresh_at fresh (j - count)
  unfolding held_at
  held_back fresh j h = rw (le-ltb j count h)

  held_same : (fresh : List ℕ) (total : ℕ) (n : Node) (j : ℕ) → count ≤ total → j < total → held_at links cells count fresh j ≡ held_at links cells count (with_fresh fresh (total - count) n) j
  held_same fresh total n j h l =
      elim (dec_lt j count) [
        | yes less ↦ held-front links cells count fresh j less ∙ sym (held-front links cells count (with_fresh fresh (total - count) n) j less)
        | no most ↦
            held_back fresh j (omega arith) ∙ sym (fresh-other fresh (total - count) n (j - count) (λ e. omega arith)) ∙ sym (held_back (with_fresh fresh (total - count) n) j (omega arith))
      ]

-- The code's steps.
module _ (numbers : List ℕ) (r link : ℕ) where
  pub link-none : link ≡ 0 → 0 ≡ relinked (take r numbers) link
  link-none e = rw e

  relinked-at : (j : ℕ) → link ≡ suc j → relinked (take r numbers) link ≡ suc (get_or (take r numbers) j 0)
  relinked-at j e = rw e

  pub link-known : (link ≡ 0 → ⊥) → link ≤ r → get_or numbers (link - 1) 0 + 1 ≡ relinked (take r numbers) link
  link-known u h =
      let z : link ≡ suc (link - 1) = omega arith in
      let g = get_or-take r numbers (link - 1) 0 (omega arith) in
      sym (relinked-at (link - 1) z ∙ omega arith)

  pub link-late : r < link → r ≤ text_parts → length numbers ≡ text_parts → 1 ≡ relinked (take r numbers) link
  link-late h k e =
      let z : link ≡ suc (link - 1) = omega arith in
      let l = length-take-le r numbers (omega arith) in
      let g = get_or-eq_default (take r numbers) 0 {n = link - 1} (omega arith) in
      sym (relinked-at (link - 1) z ∙ omega arith)

pub relink-is : (numbers : List ℕ) (r : ℕ) (n : Node) (x : Shape) (first second : ℕ) → first ≡ relinked (take r numbers) x.first → second ≡ relinked (take r numbers) x.second
    → shaped x ≡ n → node_with x.kind x.key first second x.level ≡ relink (take r numbers) n
unfolding relink
relink-is numbers r n x first second p q e = rw (← e, p, q)

-- links of bound records are small
relinked-low : (numbers : List ℕ) (r link : ℕ) → ((j : ℕ) → j < r → get_or numbers j 0 < table_entries + text_parts) → r ≤ text_parts
    → length numbers ≡ text_parts → relinked (take r numbers) link < entry_base
relinked-low numbers r zero h k e = omega arith
relinked-low numbers r (suc j) h k e =
    elim (dec_lt j r) [
      | yes less ↦ let g = get_or-take r numbers j 0 less in let b = h j less in omega arith
      | no most ↦
          let l = length-take-le r numbers (omega arith) in
          let g = get_or-eq_default (take r numbers) 0 {n = j} (omega arith) in
          omega arith
    ]

known_more : (numbers : List ℕ) (r v : ℕ) → ((j : ℕ) → j < r → get_or numbers j 0 < table_entries + text_parts) → v < table_entries + text_parts
    → length numbers ≡ text_parts → r < text_parts → (j : ℕ) → j < r + 1 → get_or (set numbers r v) j 0 < table_entries + text_parts
known_more numbers r v h l e k j m =
    elim (dec_lt j r) [
      | yes less ↦ let g = get_or-set_other numbers r j v 0 (λ q. omega arith) in let b = h j less in omega arith
      | no most ↦ let q : j ≡ r = omega arith in let g = get_or-set_same numbers r v 0 (omega arith) in rw q (omega arith)
    ]

before-some : (k i : ℕ) → number_before k ≡ Some i → k ≡ suc i
before-some k i e =
    split (eqb k 0)
    (λ p. absurd (false≢true (ap is_some (rw p at e))))
    (λ p. let u : k - 1 ≡ i = ap (λ (o : Option ℕ). unwrap_or o 0) (rw p at e) in omega (arith, eqb-false k 0 p))

before-none : (k : ℕ) → number_before k ≡ None → eqb k 0 ≡ true
before-none k e = split (eqb k 0) (λ p. p) (λ p. absurd (false≢true (sym (ap is_some (rw p at e)))))

module _ (links cells : List ℕ) (count total r : ℕ) (numbers records chain : List ℕ)
    (ready : Ready links cells count total r numbers records chain) (few : r < text_parts)
    (m : Node) (qm : m ≡ relink (take r numbers) (record_at records r))
    (o : Option ℕ) (qo : o ≡ number_before (last_same (held_at links cells count records) m total)) where
  abbrev ν : ℕ → Node
  ν = held_at links cells count records

  abbrev ns : List Node
  ns = numbered ν 0 total

  -- one more than the last that is equal
  abbrev c : ℕ
  c = last_same ν m total

  -- the number that the definition finds
  found : index same_node m ns ≡ cond (eqb c 0) total (c - 1)
  found = find-last ν m total ready.apart

  bind-as : bind_one (bound_now links cells count total r numbers records) (record_at records r)
      ≡ bound (cond (ltb (cond (eqb c 0) total (c - 1)) total) ns (ns ++ (m ∷ []))) (take r numbers ++ (cond (eqb c 0) total (c - 1) ∷ []))
  unfolding bind_one
  bind-as = rw (← qm) (rw (found, length-numbered ν 0 total))

  numbers_more : (v : ℕ) → take (r + 1) (set numbers r v) ≡ take r numbers ++ (v ∷ [])
  numbers_more v = let z = ready.places in rw (add-one r) (take-suc-set numbers r v (omega arith))

  pub bound-old : (i : ℕ) → o ≡ Some i → BoundOne links cells count total r numbers records total (set numbers r i) records chain
  bound-old i e =
      let h : c ≡ suc i = before-some c i (sym qo ∙ e) in
      let z : c - 1 ≡ i = omega arith in
      rw (← z)
      (let l : c ≤ total = (let b = last-le ν m total in omega arith) in
      let a = ready.low in
      let b = ready.high in
      let d = ready.few in
      record {
        is = rw (numbers_more (c - 1)) (sym (bind-as ∙ rw (ne_eqb c 0 (λ e. omega arith)) (rw (lt-ltb (c - 1) total (omega arith)))));
        later = λ j l. refl;
        ready = record {
          few = d;
          low = a;
          high = omega arith;
          places = length-set numbers r (c - 1) ∙ ready.places;
          chained = ready.chained;
          apart = ready.apart;
          known = known_more numbers r (c - 1) ready.known (omega arith) ready.places few;
        };
      })

  kind-low : m.kind < kind_base
  unfolding relink record_at
  kind-low = rw qm (omega arith)

  first-low : m.first < entry_base
  unfolding relink
  first-low = rw qm (relinked-low numbers r (record_at records r).first ready.known (omega arith) ready.places)

  second-low : m.second < entry_base
  unfolding relink
  second-low = rw qm (relinked-low numbers r (record_at records r).second ready.known (omega arith) ready.places)

  level-low : m.level < entry_base
  unfolding relink record_at
  level-low = rw qm (omega arith)

  pub bound-new : (h : ℕ) (records' chain' : List ℕ) → length records ≡ text_words → o ≡ None → h ≡ hash_of m → records' ≡ with_fresh records (total - count) m
      → chain' ≡ linked chain h total → BoundOne links cells count total r numbers records (total + 1) (set numbers r total) records' chain'
  bound-new h records' chain' y z qh qf qg =
      let a = ready.low in
      let b = ready.high in
      let d = ready.few in
      let last : held_at links cells count records' total ≡ m =
      held_back links cells count records' total a ∙ ap (λ (f : List ℕ). fresh_at f (total - count)) qf ∙ fresh-same records (total - count) m kind-low first-low second-low level-low (omega arith) in
      let old : (j : ℕ) → j < total → ν j ≡ held_at links cells count records' j =
      λ j l. held_same links cells count records total m j a l ∙ ap (λ (f : List ℕ). held_at links cells count f j) (sym qf) in
      let more : numbered (held_at links cells count records') 0 (total + 1) ≡ ns ++ (m ∷ []) =
      ap (numbered (held_at links cells count records') 0) (add-one total) ∙ numbered-last (held_at links cells count records') total
      ∙ ap (λ (l : List Node). l ++ (held_at links cells count records' total ∷ [])) (sym (numbered-agree ν (held_at links cells count records') 0 total (λ j l. old j (omega arith))))
      ∙ ap (λ (x : Node). ns ++ (x ∷ [])) last in
      let none : eqb c 0 ≡ true = before-none c (sym qo ∙ z) in
      record {
        is = rw (more, numbers_more total) (sym (bind-as ∙ rw none (rw (le-ltb total total (omega arith)))));
        later = λ j l. ap (λ (w : List ℕ). record_at w j) qf ∙ record-other records (total - count) m j (λ e. omega arith);
        ready = record {
          few = d;
          low = omega arith;
          high = omega arith;
          places = length-set numbers r total ∙ ready.places;
          chained =
              chained_more (held_at links cells count records') chain chain' total h
              (chained-agree ν (held_at links cells count records') chain total ready.chained old)
              qg (qh ∙ ap hash_of (sym last)) (hash-low h m qh) (omega arith);
          apart = ap distinct more ∙ distinct_snoc m ns ∙ rw (ready.apart, has_last ν m total) (rw none);
          known = known_more numbers r total ready.known (omega arith) ready.places few;
        };
      }

bind-none : (b : Bound) → bind_all b [] ≡ b
unfolding bind_all
bind-none b = refl

-- numberings that agree from here on
numbered-from : (ν μ : ℕ → Node) (a b k : ℕ) → ((j : ℕ) → ν (a + j) ≡ μ (b + j)) → numbered ν a k ≡ numbered μ b k
unfolding numbered
numbered-from ν μ a b zero g = refl
numbered-from ν μ a b (suc k) g =
    let p : a + 0 ≡ a = omega arith in
    let q : b + 0 ≡ b = omega arith in
    rw (
      rw (p, q) at (g 0),
      numbered-from ν μ (suc a) (suc b) k (λ j. let u : suc a + j ≡ a + suc j = omega arith in let v : suc b + j ≡ b + suc j = omega arith in rw (u, v) (g (suc j))),
    )

-- the loop over the records
module _ (links cells : List ℕ) (count : ℕ) (records : List ℕ) (n : ℕ) where
  abbrev whole : Bound
  whole = bind_all (bound (numbered (node_at links cells) 0 count) []) (numbered (record_at records) 0 n)

  same_start : (fresh : List ℕ) → numbered (held_at links cells count fresh) 0 count ≡ numbered (node_at links cells) 0 count
  same_start fresh = numbered-agree (held_at links cells count fresh) (node_at links cells) 0 count (λ j l. held-front links cells count fresh j (omega arith))

  pub ready-start : (numbers fresh chain : List ℕ) → count ≤ table_entries → length numbers ≡ text_parts
      → Chained (held_at links cells count fresh) chain count
      → distinct (numbered (node_at links cells) 0 count) ≡ true → Ready links cells count count 0 numbers fresh chain
  ready-start numbers fresh chain h p ch d =
      record { few = h; low = omega arith; high = omega arith; places = p; chained = ch; apart = rw (same_start fresh) d; known = λ j l. absurd (omega arith) }

  pub bind-start : (numbers : List ℕ) → bind_all (bound_now links cells count count 0 numbers records) (numbered (record_at records) 0 (n - 0)) ≡ whole
  bind-start numbers = rw (sub-zero, same_start records)

  module _ (total r : ℕ) (numbers fresh : List ℕ)
      (all : bind_all (bound_now links cells count total r numbers fresh) (numbered (record_at fresh) r (n - r)) ≡ whole) where
    pub bind-go : (total' : ℕ) (numbers' fresh' chain' : List ℕ) → BoundOne links cells count total r numbers fresh total' numbers' fresh' chain' → r < n
        → bind_all (bound_now links cells count total' (r + 1) numbers' fresh') (numbered (record_at fresh') (r + 1) (n - (r + 1))) ≡ whole
    unfolding bind_all numbered
    bind-go total' numbers' fresh' chain' b h =
        let same : numbered (record_at fresh') (r + 1) (n - (r + 1)) ≡ numbered (record_at fresh) (r + 1) (n - (r + 1)) =
        numbered-from (record_at fresh') (record_at fresh) (r + 1) (r + 1) (n - (r + 1)) (λ j. b.later (r + 1 + j) (omega arith)) in
        rw (b.is, same) (sym (rw (left-suc n r h, add-one r)) ∙ all)

    pub bind-end : (chain : List ℕ) → Ready links cells count total r numbers fresh chain → r ≤ n → n ≤ r → BoundAll links cells count records n total numbers fresh
    bind-end chain ready h k =
        let q : r ≡ n = omega arith in
        let a = ready.high in
        record { is = ap (λ (k : ℕ). bound_now links cells count total k numbers fresh) (sym q) ∙ done ∙ all; low = ready.low; high = omega arith; places = ready.places }
      where
        no_more : (b : Bound) (k : ℕ) → k ≡ 0 → bind_all b (numbered (record_at fresh) r k) ≡ b
        no_more b k e = rw (e, numbered-zero (record_at fresh) r) (bind-none b)

        done : bound_now links cells count total r numbers fresh ≡ bind_all (bound_now links cells count total r numbers fresh) (numbered (record_at fresh) r (n - r))
        done = sym (no_more (bound_now links cells count total r numbers fresh) (n - r) (omega arith))

-- what binding leaves: the entries held, then those that wait; their number; and the numbers of the records
numbered-split : (ν μ : ℕ → Node) (i c k : ℕ) → ((j : ℕ) → ν (i + c + j) ≡ μ j) → numbered ν i (c + k) ≡ numbered ν i c ++ numbered μ 0 k
unfolding numbered
numbered-split ν μ i zero k h =
    let z : 0 + k ≡ k = omega arith in
    rw z (numbered-from ν μ i 0 k (λ j. let q : i + j ≡ i + 0 + j = omega arith in let z : 0 + j ≡ j = omega arith in rw (q, z) (h j)))
numbered-split ν μ i (suc c) k h =
    let z : suc c + k ≡ suc (c + k) = omega arith in
    rw z (ap (λ (l : List Node). ν i ∷ l) (numbered-split ν μ (suc i) c k (λ j. let q : suc i + c + j ≡ i + suc c + j = omega arith in rw q (h j))))

module _ (links cells : List ℕ) (count : ℕ) (records : List ℕ) (n total : ℕ) (numbers fresh : List ℕ) (all : BoundAll links cells count records n total numbers fresh) where
  abbrev after : Bound
  after = bind_all (bound (numbered (node_at links cells) 0 count) []) (numbered (record_at records) 0 n)

  pub bound-nodes : after.nodes ≡ numbered (node_at links cells) 0 count ++ numbered (fresh_at fresh) 0 (total - count)
  bound-nodes =
      let l = all.low in
      let z : count + (total - count) ≡ total = omega arith in
      sym (ap (λ (b : Bound). b.nodes) all.is) ∙ ap (numbered (held_at links cells count fresh) 0) (sym z)
      ∙ numbered-split (held_at links cells count fresh) (fresh_at fresh) 0 count (total - count)
      (λ j. let q : 0 + count + j - count ≡ j = omega arith in held_back links cells count fresh (0 + count + j) (omega arith) ∙ ap (fresh_at fresh) q)
      ∙ ap (λ (ns : List Node). ns ++ numbered (fresh_at fresh) 0 (total - count))
      (numbered-agree (held_at links cells count fresh) (node_at links cells) 0 count (λ j m. held-front links cells count fresh j (omega arith)))

  -- exactly the new entries wait
  pub bound-waits : numbered (fresh_at fresh) 0 (total - count) ≡ drop count after.nodes
  bound-waits = sym (ap (drop count) bound-nodes ∙ drop_at (numbered (node_at links cells) 0 count) (numbered (fresh_at fresh) 0 (total - count)) count (length-numbered (node_at links cells) 0 count))

  pub bound-numbers : take n numbers ≡ after.numbers
  bound-numbers = ap (λ (b : Bound). b.numbers) all.is

  -- 01, refusal 13, by the definition
  pub bound-total : total ≡ length after.nodes
  bound-total = sym (length-numbered (held_at links cells count fresh) 0 total) ∙ ap (λ (b : Bound). length b.nodes) all.is

pub ready-next : (links cells : List ℕ) (count total r : ℕ) (numbers records : List ℕ) (total' : ℕ) (numbers' records' chain' : List ℕ)
    → BoundOne links cells count total r numbers records total' numbers' records' chain' → Ready links cells count total' (r + 1) numbers' records' chain'
ready-next links cells count total r numbers records total' numbers' records' chain' b = b.ready

pub ruleset binding = (link-none, link-known, link-late, relink-is, bound-old, bound-new, ready-start, bind-start, bind-end, ready-next)
