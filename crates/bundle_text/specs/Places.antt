-- The words that begin a line, and where they may stand.
use Rattle.std.specs.Prelude.{ℕ, Bool, true, false, List, Option, Some, None, codes, if◌then◌else◌}
use Rattle.std.specs.Str.{bytes_eq}
use Rattle.bundle_text.specs.declared.draft.Word.{Word}
use Rattle.bundle_text.specs.declared.draft.Word.TheVariants as word
use Rattle.bundle_text.specs.declared.draft.Place.{Place}
use Rattle.bundle_text.specs.declared.draft.Place.TheVariants as at

-- the word of a token
abbrev pub word_named : List ℕ → Option Word
word_named token =
    if bytes_eq token (codes "bundle") then Some word.Bundle
    else if bytes_eq token (codes "slots") then Some word.Slots
    else if bytes_eq token (codes "plan") then Some word.Plan
    else if bytes_eq token (codes "task") then Some word.Task
    else if bytes_eq token (codes "tape") then Some word.Tape
    else if bytes_eq token (codes "words") then Some word.Words
    else if bytes_eq token (codes "code") then Some word.Code
    else if bytes_eq token (codes "endcode") then Some word.EndCode
    else if bytes_eq token (codes "endtask") then Some word.EndTask
    else if bytes_eq token (codes "world") then Some word.World
    else if bytes_eq token (codes "events") then Some word.Events
    else if bytes_eq token (codes "order") then Some word.Order
    else None

-- Where the line after stands if it begins with this word, by the section that the line before ends: a section allows its own word and
-- the words of the sections after it.

abbrev pub in_order : Word → Option Place
in_order word.Order = Some at.Order
in_order w = None

abbrev pub in_events : Word → Option Place
in_events word.Events = Some at.Events
in_events w = in_order w

abbrev pub in_worlds : Word → Option Place
in_worlds word.World = Some at.Worlds
in_worlds w = in_events w

-- a task opens
abbrev pub in_tasks : Word → Option Place
in_tasks word.Task = Some at.Tape
in_tasks w = in_worlds w

abbrev pub in_plans : Word → Option Place
in_plans word.Plan = Some at.Plans
in_plans w = in_tasks w

-- a task ends
abbrev pub in_code_end : Word → Option Place
in_code_end word.EndTask = Some at.Tasks
in_code_end w = None

abbrev pub in_words : Word → Option Place
in_words word.Words = Some at.Words
in_words w = in_code_end w

-- the words of a task or its lines of code, of which only one may be there
abbrev pub in_tape : Word → Option Place
in_tape word.Tape = Some at.Tape
in_tape word.Code = Some at.Code
in_tape w = in_words w

abbrev pub in_start : Word → Option Place
in_start word.Bundle = Some at.Header
in_start w = None

abbrev pub in_header : Word → Option Place
in_header word.Slots = Some at.Plans
in_header w = None

-- None where the word can't stand
abbrev pub place_after : Place → Word → Option Place
place_after at.Start w = in_start w
place_after at.Header w = in_header w
place_after at.Plans w = in_plans w
place_after at.Tasks w = in_tasks w
place_after at.Worlds w = in_worlds w
place_after at.Events w = in_events w
place_after at.Order w = in_order w
place_after at.Tape w = in_tape w
place_after at.Words w = in_words w
place_after at.Code w = None
place_after at.CodeEnd w = in_code_end w

-- whether the text may end: its slots were read and no task is open
abbrev pub may_end : Place → Bool
may_end at.Start = false
may_end at.Header = false
may_end at.Plans = true
may_end at.Tasks = true
may_end at.Worlds = true
may_end at.Events = true
may_end at.Order = true
may_end at.Tape = false
may_end at.Words = false
may_end at.Code = false
may_end at.CodeEnd = false

-- whether lines are code
abbrev pub is_in_code : Place → Bool
is_in_code at.Code = true
is_in_code p = false
