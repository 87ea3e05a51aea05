-- Open, preview, fetch and print over a small cache, computed: what each answers and leaves. Assumes nothing.
use Rattle.std.specs.Prelude.{◌≡◌, refl, List, [], ◌∷◌, ◌++◌, map, ℕ, ◌+◌, ◌*◌, ℤ, pos, replicate, take, drop, length}
use Rattle.language.specs.Names
use Rattle.language.specs.Names.{bytes}
use Rattle.members.specs.Members
use Rattle.grammar.specs.Tokens
use Rattle.grammar.specs.Faults
use Rattle.grammar.specs.Reading
use Rattle.grammar.specs.Machine
use Rattle.rules.specs.Values
use Rattle.rules.specs.Windows
use Rattle.rules.specs.Rules
use Rattle.rules.specs.Apply
use Rattle.values.specs.Packing
use Rattle.values.specs.Applied
use Rattle.meaning.specs.Forms
use Rattle.meaning.specs.Binding
use Rattle.meaning.specs.Evaluation
use Rattle.printing.specs.Printed
use Rattle.layout.specs.Links
use Rattle.layout.specs.Links.{value_at}
use Rattle.layout.specs.Memory
use Rattle.layout.specs.Memory.{Memory}
use Rattle.model.specs.Decoding
use Rattle.model.specs.Model
use Rattle.model.specs.Model.{refused, printed}
use Rattle.formulas.specs.Formulas
use Rattle.layout.specs.Nodes
use Rattle.table.specs.WellFormed
use Rattle.table.specs.Waits
use Rattle.columns.specs.Calling
use Rattle.evaluator.specs.Frames
use Rattle.evaluator.specs.Applying
use Rattle.schedule.specs.Works
use Rattle.schedule.proofs.Examples.{entry}
use Rattle.schedule.specs.declared.View.{View}
use Rattle.interface.specs.declared.answers.Previewed.{Previewed}
use Rattle.std.specs.Prelude.{Result, Ok, Err}
use Rattle.language.specs.declared.refusals.Refusal.{Refusal}
use Rattle.language.specs.declared.refusals.Refusal.TheVariants.{NoSuchEntry}
use Rattle.interface.specs.declared.answers.Previewed.TheVariants.{NotYet, Finished}
use Rattle.interface.specs.Answers.{Reply}
use Rattle.interface.specs.Calls
use Rattle.interface.specs.Calls.{open_memory, previewed, preview_memory, fetched, print_answer, print_bytes}

-- 0 data, 1 and 2 the numbers 1 and 2, 3 data.skip(1), 4 data.skip(1).take(2), 5 data.sum(), none of them worked out; the recording has five of
-- the readings lent
abbrev pub cache : Memory
cache =
    record {
      readings = pos 140 ∷ pos 152 ∷ pos 160 ∷ pos 148 ∷ pos 155 ∷ replicate 1019 (pos 9);
      heads = 6 ∷ 5 ∷ [];
      links = links ++ drop (length links) (replicate 2048 0);
      cells = cells ++ drop (length cells) (replicate 2048 0);
    }
  where
    links : List ℕ
    links = entry 3 0 0 0 ++ entry 0 0 0 0 ++ entry 0 0 0 0 ++ entry 11 1 2 0 ++ entry 12 4 3 0 ++ entry 14 1 0 0

    cells : List ℕ
    cells = 0 ∷ 0 ∷ 0 ∷ 0 ∷ 2147483649 ∷ 0 ∷ 0 ∷ 0 ∷ 2147483650 ∷ []

-- a window as it is kept, and what a window and a number show
abbrev pub window : ℕ → ℕ → ℕ
window s l = 8589934592 + 65536 * s + l

abbrev pub shown_window : ℕ → ℕ → View
shown_window s l = record { kind = 2; first = pos s; second = l; name = 0; other = 0 }

abbrev pub shown_number : ℕ → View
shown_number n = record { kind = 1; first = pos n; second = 0; name = 0; other = 0 }

-- what a preview answers, and the kept values that it leaves; the readings that are fetched after it; what an open leaves of it
pub record Outcome : Type 0 where
  pub answer : Result Previewed Refusal
  pub marked : List ℕ
  pub fetched : List ℤ
  pub opened : List ℕ × List ℤ

-- of entry n with an allowance, over a cache; then of an open with two readings
unfoldable pub outcome : Memory → ℕ → ℕ → Outcome
unfolding Calls.open_memory Calls.previewed Calls.preview_memory Calls.part_of Memory.fits Memory.node_at Memory.kept_at Memory.entries_from
    Nodes.member_of_kind Members.member_at Members.spelled Members.arguments Names.bytes Nodes.arity Nodes.kids Nodes.same_node Nodes.word_number Nodes.is_name
    WellFormed.well_formed WellFormed.every WellFormed.key_right WellFormed.level_right WellFormed.arity_right WellFormed.has_node WellFormed.distinct
    Decoding.decode_from Nodes.build Evaluation.awaited WellFormed.done_at WellFormed.all_done WellFormed.names_right WellFormed.kept_right
    Packing.is_packed Evaluation.has_name Evaluation.joined Evaluation.without Works.worked Works.work_from Works.chosen Works.need_of
    Works.need_from Works.raised Works.name_for Works.other_for Works.show_of Waits.waits_from Waits.waits_at Waits.joined_slots
    Waits.without_slot Frames.start_from Frames.start_at Frames.leaf_of Links.kept_with Applying.apply_at Applying.plan_of Applying.finish_of
    Calling.ask_of Calling.call_of Applying.follow_of Calling.bounded_of Applied.applied1 Apply.apply0 Apply.apply1
    Rules.rule Windows.total Values.ranged Packing.unpack_of
outcome m n a =
    let after : Memory = preview_memory m n a in
    let anew : Memory = open_memory after (pos 7 ∷ pos 8 ∷ []) in
    record {
      answer = previewed m n a;
      marked = map (value_at after.cells) (3 ∷ 4 ∷ 5 ∷ []);
      fetched = fetched after n;
      opened = (anew.heads, take 3 anew.readings);
    }

abbrev pub expected : Result Previewed Refusal → List ℕ → List ℤ → Outcome
expected p ks rs = record { answer = p; marked = ks; fetched = rs; opened = (0 ∷ 2 ∷ [], pos 7 ∷ pos 8 ∷ pos 160 ∷ []) }

-- of the take with an allowance of 1 and of 9; of the sum, which is over the recording alone; of the take with none; of an entry that is not held
pub outcomes-hold :
    outcome cache 4 1 ∷ outcome cache 4 9 ∷ outcome cache 5 9 ∷ outcome cache 4 0 ∷ outcome cache 6 9 ∷ []
    ≡ expected (Ok (NotYet 1)) (window 1 4 ∷ 0 ∷ 0 ∷ []) []
    ∷ expected (Ok (Finished 2 (shown_window 1 2))) (window 1 4 ∷ window 1 2 ∷ 0 ∷ []) (pos 152 ∷ pos 160 ∷ [])
    ∷ expected (Ok (Finished 1 (shown_number 755))) (0 ∷ 0 ∷ 2147484404 ∷ []) []
    ∷ expected (Ok (NotYet 0)) (0 ∷ 0 ∷ 0 ∷ []) []
    ∷ expected (Err NoSuchEntry) (0 ∷ 0 ∷ 0 ∷ []) []
    ∷ []
unfolding outcome
outcomes-hold = refl

-- what a print of entry n answers, and the lent bytes after it
unfoldable pub print_of : Memory → ℕ → List ℕ → Reply × List ℕ
unfolding Calls.print_answer Model.printing Model.filled Formulas.parsed Printed.digits_onto Printed.decimals Printed.unpack_onto Printed.text_of
    Memory.fits Memory.node_at Memory.kept_at Memory.entries_from Nodes.member_of_kind Members.member_at Nodes.arity Nodes.kids Nodes.same_node
    Nodes.word_number Nodes.is_name WellFormed.well_formed WellFormed.every WellFormed.key_right WellFormed.level_right WellFormed.arity_right WellFormed.has_node WellFormed.distinct
    Decoding.decode_from Nodes.build Evaluation.awaited WellFormed.done_at WellFormed.all_done WellFormed.names_right WellFormed.kept_right
    Packing.is_packed Evaluation.has_name Evaluation.joined Evaluation.without
    Names.bytes Names.pack_onto Names.let_word Names.word_in Names.data_word Names.is_data Members.spelled Members.arguments Members.same_bytes
    Members.named_in Members.member_of Members.takes Tokens.when Tokens.leading Tokens.decimal_onto Tokens.word_token Tokens.word_at Tokens.digits_at
    Tokens.minus_at Tokens.mark_token Tokens.token_at Tokens.scan Faults.fault_number Faults.opened Faults.in_lambda Faults.mark_fault
    Faults.lambda_fault Faults.binder_fault Faults.name_fault Faults.literal_fault Faults.call_fault Faults.fault Faults.counted
    Reading.place_in Machine.step Machine.finish Machine.further Machine.ended Machine.judge Machine.read_from Machine.read Machine.read_text
    Forms.shape_of Forms.integer_of Forms.name_of Forms.member_of Forms.first_of Forms.second_of Forms.same Binding.look_up Binding.named Binding.lambdas Binding.member
    Binding.form_e Binding.called Binding.places_e Binding.order_e
print_of m n bytes = (print_answer m n bytes, print_bytes m n bytes)

-- a cache of one lambda variable
abbrev variable : Memory
variable = record { readings = replicate 1024 (pos 0); heads = 1 ∷ 5 ∷ []; links = 1 ∷ replicate 2047 0; cells = 97 ∷ replicate 2047 0 }

abbrev lent_bytes : ℕ → List ℕ
lent_bytes n = replicate n 7

unfoldable pub take_text : List ℕ
unfolding Names.bytes
take_text = bytes "data.skip(1).take(2)"

-- of the take, in 22 bytes, of which two are left, and in one byte too few; of an entry that is not held; of a lambda variable, which would be
-- read as an unbound name
pub prints-hold :
    print_of cache 4 (lent_bytes 22) ∷ print_of cache 4 (lent_bytes 19) ∷ print_of cache 6 (lent_bytes 22) ∷ print_of variable 0 (lent_bytes 22) ∷ []
    ≡ (printed take_text, take_text ++ lent_bytes 2)
    ∷ (refused 15 0, lent_bytes 19)
    ∷ (refused 14 0, lent_bytes 22)
    ∷ (refused 16 0, lent_bytes 22)
    ∷ []
unfolding print_of take_text
prints-hold = refl
