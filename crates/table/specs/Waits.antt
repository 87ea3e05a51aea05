-- The variables that an entry awaits, by the numbers of their entries: at most two, each one more than the entry's number, 0 for none,
-- put together as the first times 65,536 plus the second, in the order of first occurrence. Assumes nothing: these are definitions.
use Rattle.std.specs.Prelude.{Bool, cond, ◌&&◌, ◌||◌, List, ℕ, zero, suc, ◌+◌, ◌*◌, ◌-◌, ◌/◌, ◌%◌, leb, ltb, eqb, get_or, set}
use Rattle.layout.specs.Links.{kind_at, first_at, second_at, level_at, key_at, is_below}
use Rattle.layout.specs.Nodes.{variable_kind, function_kind}

-- the first and the second
abbrev pub slot_a : ℕ → ℕ
slot_a w = w / 65536

abbrev pub slot_b : ℕ → ℕ
slot_b w = w % 65536

-- one of the two is v
abbrev pub has_slot : ℕ → ℕ → Bool
has_slot w v = eqb (slot_a w) v || eqb (slot_b w) v

abbrev pub awaits : ℕ → ℕ → Bool
awaits w v = leb 1 v && has_slot w v

-- those of w, then those of u, each once; no more than two
unfoldable pub joined_slots : ℕ → ℕ → ℕ
joined_slots w u =
    cond (eqb (slot_a w) 0) u
    (cond (leb 1 (slot_b w)) w
    (cond (eqb (slot_a w) (slot_a u)) (slot_a w * 65536 + slot_b u)
    (slot_a w * 65536 + slot_a u)))

-- the slot is the variable with that name and level
abbrev pub is_of : List ℕ → List ℕ → (key level : ℕ) → ℕ → Bool
is_of links cells key level p = leb 1 p && (eqb (key_at cells (p - 1)) key && eqb (level_at links (p - 1)) level)

-- those of w but that variable
unfoldable pub without_slot : List ℕ → List ℕ → (key level : ℕ) → ℕ → ℕ
without_slot links cells key level w =
    cond (is_of links cells key level (slot_a w)) (slot_b w * 65536)
    (cond (is_of links cells key level (slot_b w)) (slot_a w * 65536)
    w)

-- of a dependency of entry i, from those of the entries before i
abbrev pub waits_of : List ℕ → ℕ → ℕ → ℕ
waits_of waits link i = cond (is_below link i) (get_or waits (link - 1) 0) 0

-- of entry i, by its kind: a variable awaits itself, a function what its body awaits but its own variable
unfoldable pub waits_at : List ℕ → List ℕ → List ℕ → ℕ → ℕ
waits_at links cells waits i =
    cond (eqb (kind_at links i) variable_kind) ((i + 1) * 65536)
    (cond (ltb (kind_at links i) function_kind) 0
    (cond (eqb (kind_at links i) function_kind) (without_slot links cells (key_at cells i) (level_at links i) (waits_of waits (first_at links i) i))
    (joined_slots (waits_of waits (first_at links i) i) (waits_of waits (second_at links i) i))))

-- k entries from i on, in rising order
unfoldable pub waits_from : List ℕ → List ℕ → ℕ → ℕ → List ℕ → List ℕ
waits_from links cells zero i waits = waits
waits_from links cells (suc k) i waits = waits_from links cells k (suc i) (set waits i (waits_at links cells waits i))

-- each variable of u is one of w's
abbrev pub covers : ℕ → ℕ → Bool
covers w u = (eqb (slot_a u) 0 || has_slot w (slot_a u)) && (eqb (slot_b u) 0 || has_slot w (slot_b u))

-- entry i awaits no more than two: what a join leaves out is a variable of the second dependency
unfoldable pub few_at : List ℕ → List ℕ → ℕ → Bool
few_at links waits i = covers (get_or waits i 0) (waits_of waits (second_at links i) i)

-- a function's own variable: what its body awaits and it does not
unfoldable pub own_of : ℕ → ℕ → ℕ
own_of body function =
    cond (has_slot function (slot_a body)) (cond (has_slot function (slot_b body)) 0 (slot_b body))
    (slot_a body)
