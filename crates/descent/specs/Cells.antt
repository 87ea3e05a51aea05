-- Cells written one by one: where they stand afterwards, in what order, and what is left of the cells before. Assumes nothing.
use Rattle.std.specs.Prelude.{◌≡◌, refl, List, [], ◌∷◌, ◌++◌, ℕ, suc, ◌+◌, ◌*◌, ◌≤◌, ◌<◌, length, drop, set}
use Rattle.std.proofs.Common.{sym, ap, ◌∙◌, zero-add, arith}
use Rattle.std.proofs.lemmas.List.Edits.{sets, sets-eq}
use Rattle.std.proofs.lemmas.List.{set_comm}
use Rattle.layout.specs.Memory.{Node}
use Rattle.descent.specs.Descent.{link_word}

pub sets-append : (xs ys cs : List ℕ) (i : ℕ) → sets cs i (xs ++ ys) ≡ sets (sets cs i xs) (i + length xs) ys
sets-append [] ys cs i = let e : i + 0 ≡ i = omega arith in rw e
sets-append (x ∷ xs) ys cs i = let e : i + suc (length xs) ≡ suc i + length xs = omega arith in rw e (sets-append xs ys (set cs i x) (suc i))

set-sets : (vs cs : List ℕ) (i j v : ℕ) → j < i → set (sets cs i vs) j v ≡ sets (set cs j v) i vs
set-sets [] cs i j v l = refl
set-sets (x ∷ vs) cs i j v l = set-sets vs (set cs i x) (suc i) j v (omega arith) ∙ ap (λ l. sets l (suc i) vs) (set_comm cs i j x v (λ e. omega arith))

-- one cell before the others
pub put-before : (vs cs : List ℕ) (i v : ℕ) → set (sets cs (suc i) vs) i v ≡ sets cs i (v ∷ vs)
put-before vs cs i v = set-sets vs cs (suc i) i v (omega arith)

-- where there is room: the values, and behind them the cells as they were
pub sets-all : (vs cs : List ℕ) → length vs ≤ length cs → sets cs 0 vs ≡ vs ++ drop (length vs) cs
sets-all vs cs l = rw zero-add at (sets-eq vs cs 0 (rw zero-add l))

-- the words of records
unfoldable pub words : List Node → List ℕ
words [] = []
words (n ∷ ns) = link_word n ∷ n.key ∷ words ns

words_append : (ns ms : List Node) → words (ns ++ ms) ≡ words ns ++ words ms
unfolding words
words_append [] ms = refl
words_append (n ∷ ns) ms = ap (λ l. link_word n ∷ n.key ∷ l) (words_append ns ms)

pub length-words : (ns : List Node) → length (words ns) ≡ 2 * length ns
unfolding words
length-words [] = refl
length-words (n ∷ ns) = let e = length-words ns in omega arith

-- one more record
pub put_word : (R : List ℕ) (t : List Node) (n : Node)
    → set (set (sets R 0 (words t)) (2 * length t) (link_word n)) (2 * length t + 1) n.key ≡ sets R 0 (words (t ++ (n ∷ [])))
unfolding words
put_word R t n =
    let e : 0 + length (words t) ≡ 2 * length t = omega (arith, length-words t) in
    let g : suc (2 * length t) ≡ 2 * length t + 1 = omega arith in
    let z : sets R 0 (words t ++ words (n ∷ [])) ≡ sets (sets R 0 (words t)) (2 * length t) (words (n ∷ [])) = rw (← e) (sets-append (words t) (words (n ∷ [])) R 0) in
    sym (ap (sets R 0) (words_append t (n ∷ [])) ∙ z ∙ ap (λ i. set (set (sets R 0 (words t)) (2 * length t) (link_word n)) i n.key) g)
