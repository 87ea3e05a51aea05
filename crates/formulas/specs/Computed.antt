-- The model of formulas as a definition that computes: what unfolds where a session is run. Assumes nothing.
use Rattle.language.specs.Names
use Rattle.members.specs.Members
use Rattle.grammar.specs.Tokens
use Rattle.grammar.specs.Faults
use Rattle.grammar.specs.Reading
use Rattle.grammar.specs.Machine
use Rattle.rules.specs.Values
use Rattle.rules.specs.Numbers
use Rattle.rules.specs.Windows
use Rattle.rules.specs.Stretches
use Rattle.rules.specs.Runs
use Rattle.rules.specs.Rules
use Rattle.rules.specs.Apply
use Rattle.meaning.specs.Forms
use Rattle.meaning.specs.Binding
use Rattle.meaning.specs.Evaluation
use Rattle.printing.specs.Printed
use Rattle.model.specs.Lists
use Rattle.model.specs.Model
use Rattle.formulas.specs.Formulas.{formulas, parsed}

unfoldable pub run : Model.State formulas → Model.Call formulas → Model.Outcome formulas
unfolding parsed Names.bytes Names.pack_onto Names.let_word Names.word_in Names.data_word Names.is_data Members.spelled Members.arguments Members.same_bytes Members.named_in
    Members.member_of Members.takes Tokens.when Tokens.leading Tokens.decimal_onto Tokens.word_token Tokens.word_at Tokens.digits_at Tokens.minus_at
    Tokens.mark_token Tokens.token_at Tokens.scan Faults.fault_number Faults.opened Faults.in_lambda
    Faults.mark_fault Faults.lambda_fault Faults.binder_fault Faults.name_fault Faults.literal_fault Faults.call_fault Faults.fault
    Faults.counted Reading.place_in Machine.step Machine.finish Machine.further Machine.ended Machine.judge Machine.read_from Machine.read
    Machine.read_text Values.ranged Numbers.divided Windows.total Windows.fold_from Windows.extreme Stretches.stretches_from Stretches.sums
    Stretches.first_at Stretches.best_sum Stretches.best_at Runs.results Runs.count_of Runs.stretch Runs.longest Rules.rule Apply.apply0
    Apply.apply1 Forms.shape_of Forms.integer_of Forms.name_of Forms.member_of Forms.first_of Forms.second_of Forms.same Forms.within Forms.works Binding.look_up Binding.named Binding.lambdas
    Binding.member Binding.form_e Binding.called Binding.places_e Binding.order_e Evaluation.value_of Evaluation.run_of Evaluation.lookup
    Evaluation.settled Evaluation.evaluate Evaluation.has_name Evaluation.joined Evaluation.without Evaluation.awaited Evaluation.shows Lists.count_if
    Lists.on_firsts Lists.member Lists.index Model.on_open Model.hold Model.hold_all Model.bind Model.on_edit Model.pending Model.look Model.on_preview
    Model.printing Model.print_found Model.on_print Model.on_request Printed.digits_onto Printed.decimals Printed.unpack_onto Printed.text_of
run s c = Model.respond formulas s c
