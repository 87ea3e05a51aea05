-- 01, "When a call is declined", 5 to 12: the table's small examples, and harder ones, as texts with the number and byte place of their
-- refusal, and texts that are read; one computed check over each list. Assumes nothing.
use Rattle.std.specs.Prelude.{◌≡◌, refl, Bool, true, false, List, [], ◌∷◌, map, ◌++◌, ℕ, zero, suc, ℤ, pos, negsuc, replicate}
use Rattle.language.specs.Names
use Rattle.language.specs.Names.{bytes}
use Rattle.members.specs.Members
use Rattle.grammar.specs.Tokens
use Rattle.grammar.specs.Grammar.{literal, done}
use Rattle.grammar.specs.Faults
use Rattle.grammar.specs.Reading
use Rattle.grammar.specs.Reading.{Reading, tree, refused}
use Rattle.grammar.specs.Machine
use Rattle.grammar.specs.Machine.{read_text}

-- the reading of a text as a definition that computes
unfoldable pub computed : List ℕ → Reading
unfolding Names.bytes Names.pack_onto Names.let_word Names.word_in Names.data_word Names.is_data Members.spelled Members.arguments Members.same_bytes Members.named_in
    Members.member_of Members.takes Tokens.when Tokens.leading Tokens.decimal_onto Tokens.word_token Tokens.word_at Tokens.digits_at Tokens.minus_at
    Tokens.mark_token Tokens.token_at Tokens.scan Faults.fault_number Faults.opened Faults.in_lambda
    Faults.mark_fault Faults.lambda_fault Faults.binder_fault Faults.name_fault Faults.literal_fault Faults.call_fault Faults.fault
    Faults.counted Reading.place_in Machine.step Machine.finish Machine.further Machine.ended Machine.judge Machine.read_from Machine.read Machine.read_text
computed t = read_text t

-- the bytes so many times
unfoldable pub times : ℕ → List ℕ → List ℕ
times zero w = []
times (suc n) w = w ++ times n w

-- a text, and the number and byte place of its refusal
abbrev Refused : Type 0
Refused = List ℕ × ℕ × ℕ

-- the small examples of 01's table, 5 to 10 and 12: 11 never occurs (02, T-05), and its example is among those read below
abbrev examples : List Refused
examples =
    (bytes "data.", 5, 5)
    ∷ (bytes "2147483648", 6, 0)
    ∷ (bytes "heartrate", 7, 0)
    ∷ (bytes "let data = 1 in 2", 8, 4)
    ∷ (bytes "data.skip()", 9, 10)
    ∷ (bytes "\\a -> \\b -> \\c -> 1", 10, 12)
    ∷ (times 17 (bytes "("), 12, 16)
    ∷ []

-- the end, two numbers at one place, limits one past the bound, bytes that start no token
abbrev harder : List Refused
harder =
    (bytes "", 5, 0)
    ∷ (bytes "   ", 5, 3)
    ∷ (bytes "data.count(=", 5, 11)
    ∷ (bytes "data.count(", 5, 11)
    ∷ (bytes "data.count(2147483648", 6, 11)
    ∷ (bytes "data.count(heartrate", 7, 11)
    ∷ (bytes "data.count(1)", 9, 11)
    ∷ (bytes "data.count(\\a -> 1)", 9, 11)
    ∷ (bytes "data.count((1))", 9, 11)
    ∷ (bytes "data.count(let x = 1 in x)", 9, 11)
    ∷ (bytes "\\a -> \\b -> data.count(\\c -> 1)", 9, 23)
    ∷ (bytes "data.skip(1,2)", 9, 11)
    ∷ (bytes "data.skip(1", 5, 11)
    ∷ (bytes "data.skip(,", 5, 10)
    ∷ (bytes "data.pace()", 9, 5)
    ∷ (bytes "data.heartrate()", 9, 5)
    ∷ (bytes "data.data()", 9, 5)
    ∷ (bytes "data.let()", 5, 5)
    ∷ (bytes "data.skip 1", 5, 10)
    ∷ (bytes "\\data -> 1", 8, 1)
    ∷ (bytes "\\heartrate -> 1", 7, 1)
    ∷ (bytes "let heartrate = 1 in 2", 7, 4)
    ∷ (bytes "\\a -> \\b -> " ++ (times 14 (bytes "(") ++ bytes "\\c -> 1"), 10, 26)
    ∷ (bytes "\\a -> \\b -> " ++ (times 14 (bytes "(") ++ bytes "let c = 1 in 2"), 12, 26)
    ∷ (bytes "let in = 1 in 2", 5, 4)
    ∷ (bytes "let x = 1 in", 5, 12)
    ∷ (bytes "let x 1 in 2", 5, 6)
    ∷ (bytes "1 2", 5, 2)
    ∷ (bytes "12ab", 5, 2)
    ∷ (bytes "-2147483649", 6, 0)
    ∷ (bytes "-", 5, 0)
    ∷ (bytes "- 1", 5, 0)
    ∷ (bytes "\\a - > 1", 5, 3)
    ∷ (bytes "x -1", 5, 2)
    ∷ (bytes "(1", 5, 2)
    ∷ (bytes "1)", 5, 1)
    ∷ (bytes "()", 5, 1)
    ∷ (bytes "data.sum().", 5, 11)
    ∷ (bytes "1.add(2))", 5, 8)
    ∷ (bytes "1" ++ times 64 (bytes ".add(1)"), 12, 447)
    ∷ (bytes "\\a -> 1" ++ (times 63 (bytes ".add(1)") ++ bytes ".sum()"), 12, 448)
    ∷ (bytes "data" ++ (200 ∷ []), 5, 4)
    ∷ (0 ∷ [], 5, 0)
    ∷ []

abbrev reading_to : Refused → Reading
reading_to x = computed x.0

abbrev refusal_in : Refused → Reading
refusal_in x = refused x.1 x.2

pub examples-refused : map reading_to examples ≡ map refusal_in examples
unfolding computed times
examples-refused = refl

pub harder-refused : map reading_to harder ≡ map refusal_in harder
unfolding computed times
harder-refused = refl

-- texts at exactly the bound, and others that look wrong and are not
abbrev taken : List (List ℕ)
taken =
    bytes "heartrat"
    ∷ bytes "-2147483648"
    ∷ bytes "-0"
    ∷ bytes "007"
    ∷ (times 16 (bytes "(") ++ (bytes "1" ++ times 16 (bytes ")")))
    ∷ (bytes "\\a -> \\b -> " ++ (times 14 (bytes "(") ++ (bytes "1" ++ times 14 (bytes ")"))))
    ∷ bytes "let a = \\b -> b in \\b -> a"
    ∷ (bytes "\\a -> 1" ++ times 63 (bytes ".add(1)"))
    ∷ bytes " \t\r\ndata\n"
    ∷ bytes "data.count( )"
    ∷ bytes "let lets = 1 in lets"
    ∷ bytes "\\a -> let a = 1 in \\b -> a"
    ∷ bytes "\\a -> \\a -> 1"
    ∷ bytes "\\a -> let a = 1 in \\a -> a"
    ∷ bytes "\\a -> let x = a in \\a -> x.add(a)"
    ∷ (replicate 1023 32 ++ (49 ∷ []))
    ∷ []

abbrev is_read : Reading → Bool
is_read (tree e) = true
is_read (refused n at) = false

pub taken-read : map (λ (t : List ℕ). is_read (computed t)) taken ≡ replicate 16 true
unfolding computed times
taken-read = refl

-- numbers, and the values that they are read as
abbrev numbers : List (List ℕ × ℤ)
numbers =
    (bytes "0", pos 0)
    ∷ (bytes "-0", pos 0)
    ∷ (bytes "010", pos 10)
    ∷ (bytes "-0017", negsuc 16)
    ∷ (bytes "2147483647", pos 2147483647)
    ∷ (bytes "-2147483648", negsuc 2147483647)
    ∷ []

pub numbers-read : map (λ (x : List ℕ × ℤ). computed x.0) numbers ≡ map (λ (x : List ℕ × ℤ). tree (literal x.1 done)) numbers
unfolding computed
numbers-read = refl
