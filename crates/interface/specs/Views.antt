-- 01's cases of what is shown, as the plain numbers and names of a preview's answer. Assumes nothing: these are definitions.
use Rattle.std.specs.Prelude.{pos, get_or}
use Rattle.meaning.specs.Evaluation.{Shown, a_number, a_window, a_function, a_delay, a_reason}
use Rattle.schedule.specs.declared.View.{View}

-- kind 1 a number, 2 a window, 3 a function, 4 a delay, 5 a reason; a field that has no value is 0
unfoldable pub view_of : Shown → View
view_of (a_number z) = record { kind = 1; first = z; second = 0; name = 0; other = 0 }
view_of (a_window s l) = record { kind = 2; first = pos s; second = l; name = 0; other = 0 }
view_of (a_function x) = record { kind = 3; first = pos 0; second = 0; name = x; other = 0 }
view_of (a_delay names) = record { kind = 4; first = pos 0; second = 0; name = get_or names 0 0; other = get_or names 1 0 }
view_of (a_reason r) = record { kind = 5; first = pos r; second = 0; name = 0; other = 0 }
