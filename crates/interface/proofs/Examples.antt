-- 01's small example of refusal 4, and others like it, computed: caches that no call leaves are declined, and an empty one is not; and the
-- place of 4 among the other refusals.
-- Assumes nothing.
use Rattle.std.specs.Prelude.{◌≡◌, refl, true, false, List, [], ◌∷◌, ◌++◌, map, ℕ, pos, replicate, drop, length}
use Rattle.language.specs.Names.{bytes, pack_onto, let_word, word_in, data_word}
use Rattle.members.specs.Members.{arguments, spelled, member_at}
use Rattle.values.specs.Packing.{delayed_cell, is_packed}
use Rattle.meaning.specs.Evaluation.{has_name, joined, without, awaited}
use Rattle.model.specs.Decoding.{decode_from}
use Rattle.model.specs.Model.{refused}
use Rattle.layout.specs.Memory.{Memory, fits, node_at, kept_at, entries_from}
use Rattle.layout.specs.Nodes.{kind_count, member_of_kind, arity, kids, same_node, build, word_number, is_name}
use Rattle.table.specs.WellFormed.{every, key_right, level_right, arity_right, has_node, distinct, done_at, all_done, names_right, kept_right, well_formed}
use Rattle.schedule.proofs.Examples.{entry}
use Rattle.interface.specs.Calls.{edit_answer, previewed, preview_answer, print_answer}

-- links and cells of entries, in memory of the cache's size, over a recording of five readings
abbrev memory : ℕ → List ℕ → List ℕ → Memory
memory n links cells =
    record {
      readings = replicate 1024 (pos 0);
      heads = n ∷ 5 ∷ [];
      links = links ++ drop (length links) (replicate 2048 0);
      cells = cells ++ drop (length cells) (replicate 2048 0);
    }

-- entry 0 depends on 0
abbrev itself : Memory
itself = memory 1 (entry 13 1 0 0) (0 ∷ 0 ∷ 0 ∷ 0 ∷ [])

-- data, and then its count, worked out to 5
abbrev counted : List ℕ → Memory
counted cells = memory 2 (entry 3 0 0 0 ++ entry 13 1 0 0) (0 ∷ 0 ∷ 0 ∷ 0 ∷ cells)

abbrev five : ℕ
five = 2147483654

abbrev caches : List Memory
caches =
    memory 0 [] []
    ∷ counted (0 ∷ 0 ∷ 0 ∷ 0 ∷ [])
    ∷ counted (0 ∷ five ∷ 0 ∷ 0 ∷ [])
    -- a delay without names
    ∷ counted (0 ∷ delayed_cell ∷ 0 ∷ 0 ∷ [])
    -- two variables that differ in their level alone
    ∷ memory 2 (entry 1 0 0 0 ++ entry 1 0 0 1) (97 ∷ 0 ∷ 0 ∷ 0 ∷ 97 ∷ [])
    ∷ itself
    -- over 512 entries; over 1,024 readings
    ∷ memory 513 [] []
    ∷ record { readings = replicate 1024 (pos 0); heads = 0 ∷ 1025 ∷ []; links = replicate 2048 0; cells = replicate 2048 0 }
    -- an unknown kind; a name that is none; a wrong number of dependencies; equal entries twice
    ∷ memory 1 (entry kind_count 0 0 0) []
    ∷ memory 1 (entry 1 0 0 0) (48 ∷ [])
    ∷ memory 2 (entry 3 0 0 0 ++ entry 13 1 1 0) []
    ∷ memory 2 (entry 3 0 0 0 ++ entry 3 0 0 0) []
    -- a variable and a function of level 2; a number with a level
    ∷ memory 1 (entry 1 0 0 2) (97 ∷ [])
    ∷ memory 2 (entry 3 0 0 0 ++ entry 4 1 0 2) (0 ∷ 0 ∷ 0 ∷ 0 ∷ 97 ∷ [])
    ∷ memory 1 (entry 0 0 0 1) []
    -- an entry awaiting over two names: a.add(b).add(c), of three variables, and a.add(a).add(c), where two have one spelling
    ∷ memory 5 (entry 1 0 0 0 ++ entry 1 0 0 0 ++ entry 1 0 0 0 ++ entry 5 1 2 0 ++ entry 5 4 3 0) (97 ∷ 0 ∷ 0 ∷ 0 ∷ 98 ∷ 0 ∷ 0 ∷ 0 ∷ 99 ∷ [])
    ∷ memory 5 (entry 1 0 0 0 ++ entry 1 0 0 1 ++ entry 1 0 0 0 ++ entry 5 1 2 0 ++ entry 5 4 3 0) (97 ∷ 0 ∷ 0 ∷ 0 ∷ 97 ∷ 0 ∷ 0 ∷ 0 ∷ 99 ∷ [])
    -- a kept number beyond 32 bits, a window beyond the recording, a reason of 6
    ∷ counted (0 ∷ 4294967297 ∷ 0 ∷ 0 ∷ [])
    ∷ counted (0 ∷ 8590262273 ∷ 0 ∷ 0 ∷ [])
    ∷ counted (0 ∷ 34359738374 ∷ 0 ∷ 0 ∷ [])
    -- a delay with a second name alone
    ∷ counted (0 ∷ delayed_cell ∷ 0 ∷ 97 ∷ [])
    -- worked out with an unworked dependency: data.skip(data.count())
    ∷ memory 3 (entry 3 0 0 0 ++ entry 13 1 0 0 ++ entry 11 1 2 0) (0 ∷ 0 ∷ 0 ∷ 0 ∷ 0 ∷ 0 ∷ 0 ∷ 0 ∷ 0 ∷ 8589934592 ∷ 0 ∷ 0 ∷ [])
    ∷ []

pub caches-judged : map well_formed caches ≡ replicate 5 true ++ replicate 17 false
unfolding well_formed every node_at kept_at entries_from member_of_kind member_at arity kids same_node word_number is_name key_right level_right arity_right has_node distinct
    decode_from build awaited done_at all_done names_right kept_right is_packed spelled arguments bytes pack_onto let_word word_in data_word has_name joined without
caches-judged = refl

-- the same cache, lent without its links
abbrev cut : Memory
cut = record { readings = replicate 1024 (pos 0); heads = 1 ∷ 5 ∷ []; links = []; cells = replicate 2048 0 }

-- a text that is too long, and too few places; too few places; too little of the cache; the cache alone; and likewise for preview and for
-- print, of an entry that is not held
pub refusals-ordered :
    edit_answer itself (replicate 127 0) (replicate 1025 32) ∷ edit_answer itself (replicate 127 0) [] ∷ edit_answer cut (replicate 128 0) []
    ∷ edit_answer itself (replicate 128 0) [] ∷ preview_answer cut 9 1 ∷ preview_answer itself 9 1 ∷ print_answer cut 9 []
    ∷ print_answer itself 9 [] ∷ []
    ≡ refused 1 0 ∷ refused 3 0 ∷ refused 3 0 ∷ refused 4 0 ∷ refused 3 0 ∷ refused 4 0 ∷ refused 3 0 ∷ refused 4 0 ∷ []
unfolding edit_answer previewed print_answer fits well_formed every node_at kept_at entries_from member_of_kind member_at arity kids same_node word_number is_name key_right
    level_right arity_right has_node distinct decode_from build awaited done_at all_done names_right kept_right is_packed spelled arguments bytes pack_onto let_word word_in data_word
    has_name joined without
refusals-ordered = refl
