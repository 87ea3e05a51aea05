-- The language of formulas, as the reference model takes it: forms, what they show, the reader, and the printed texts. Assumes nothing: these are definitions.
use Rattle.std.specs.Prelude.{◌<◌, ◌^◌, ℤ}
use Rattle.std.specs.Int.Signed.{mag}
use Rattle.grammar.specs.Reading.{Reading, tree, refused}
use Rattle.grammar.specs.Machine.{read_text}
use Rattle.meaning.specs.Forms.{Form, same, dependency, within, works}
use Rattle.meaning.specs.Binding.{form_of, forms_by_place, forms_in_order}
use Rattle.meaning.specs.Evaluation.{Shown, shows}
use Rattle.printing.specs.Printed.{text_of}
use Rattle.model.specs.Lists.{All}
use Rattle.model.specs.Language.{Language, Parsed, rejected, parts}

-- a reading is within signed 32 bits
abbrev pub IsReading : ℤ → Type 0
IsReading z = mag z < 2 ^ 31

-- what is read: the forms of the parts in the order of binding and by place, and the whole's form; or a refusal's number and place
unfoldable pub parsed : Reading → Parsed Form
parsed (tree e) = parts (forms_in_order e) (forms_by_place e) (form_of e)
parsed (refused n at) = rejected n at

-- our language
abbrev pub formulas : Language
formulas =
    record {
      Form = Form;
      Shown = Shown;
      Reading = ℤ;
      Sound = All IsReading;
      same = same;
      dependency = dependency;
      reach = within;
      works = works;
      shows = shows;
      read = λ text. parsed (read_text text);
      print = text_of;
    }
