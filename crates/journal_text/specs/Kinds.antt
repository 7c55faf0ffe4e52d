-- The kinds of entries, and the byte that the spelling of each begins with.
use Rattle.std.specs.Prelude.{ℕ, ◌==◌, if◌then◌else◌, Option, Some, None}
use Rattle.journal_text.specs.declared.kind.Kind.{Kind}
use Rattle.journal_text.specs.declared.kind.Kind.TheVariants.{Settings, Enroll, Grant, Refuse, Block, Roll, Given, Stale, Switch, Release}

abbrev pub kind_code : Kind → ℕ
kind_code Settings = 1
kind_code Enroll = 2
kind_code Grant = 3
kind_code Refuse = 4
kind_code Block = 5
kind_code Roll = 6
kind_code Given = 7
kind_code Stale = 8
kind_code Switch = 9
kind_code Release = 10

-- the kind of this code, where there is one
abbrev pub kind_of : ℕ → Option Kind
kind_of code =
    if code == kind_code Settings then Some Settings
    else (if code == kind_code Enroll then Some Enroll
    else (if code == kind_code Grant then Some Grant
    else (if code == kind_code Refuse then Some Refuse
    else (if code == kind_code Block then Some Block
    else (if code == kind_code Roll then Some Roll
    else (if code == kind_code Given then Some Given
    else (if code == kind_code Stale then Some Stale
    else (if code == kind_code Switch then Some Switch
    else (if code == kind_code Release then Some Release
    else None)))))))))
