-- What a command line asks for, by its words, of which the program's name is none.
use Rattle.std.specs.Prelude.{◌≡◌, ◌<◌, ◌≤◌, ◌+◌, ◌==◌, ◌&&◌, ◌||◌, ⊤, ℕ, Bool, true, false, not, List, [], ◌∷◌, ◌++◌}
use Rattle.std.specs.Prelude.{Option, Some, None, codes, slice_get, unwrap_or, option_map, option_and_then}
use Rattle.std.specs.Prelude.{if◌then◌else◌, eqb, nat_eq, nat_le, nat_lt}
use Rattle.std.specs.List.{after_first, before_first, list_any}
use Rattle.std.specs.Option.{option_map_or}
use Rattle.std.specs.Str.{byte, bytes_eq, chars}
use Rattle.clap.specs.Lexer.{long_of, short_of}
use Rattle.clap.specs.Kinds.{IsAmong, Kinds}
use Rattle.clap.specs.Walk.{Row, Text, first_of}
use Rattle.clap.specs.Simple.{subcommand_of}
use Rattle.clap.specs.Faults.{fault_of}
use Rattle.clap.specs.declared.error.kind.ErrorKind.{ErrorKind}
use Rattle.clap.specs.declared.error.kind.ErrorKind.TheVariants as kind
use Rattle.rc_commands.specs.declared.asking.Asked.{Asked}
use Rattle.rc_commands.specs.declared.asking.Asked.TheVariants as asked
use Rattle.rc_commands.specs.declared.asking.Drawing.{Drawing}
use Rattle.rc_commands.specs.Commands.{ramseg}
use Rattle.rc_commands.specs.Numbers.{IsWithin, decimal_in}

-- ---- the answer

abbrev pub is_text : Asked → Bool
is_text (asked.Tell text) = true
is_text _ = false

-- the answer as a command: a text is none
abbrev pub as_command : Asked → Option Asked
as_command (asked.Tell text) = None
as_command (asked.Wrong text) = None
as_command command = Some command

-- what runs are drawn with is in its ranges, with so many steps at most
abbrev pub IsSized : ℕ → Drawing → Type 0
IsSized most drawing = (drawing.steps ≤ most) × (1 ≤ drawing.hosts) × (drawing.hosts ≤ 16)
    × (1 ≤ drawing.factor) × (drawing.factor ≤ 5) × (1 ≤ drawing.segment) × (drawing.segment ≤ 1024)

-- a range of seeds
abbrev pub IsFew : ℕ × ℕ → Type 0
IsFew seeds = (seeds.0 ≤ seeds.1) × (seeds.1 < seeds.0 + 10000)

-- the numbers of a command are in their ranges
abbrev pub IsInRange : Asked → Type 0
IsInRange (asked.Run heap) = IsWithin 16 1048576 heap
IsInRange (asked.Fuzz seed steps free) = steps ≤ 100000
IsInRange (asked.Stops seed steps) = steps ≤ 1000
IsInRange (asked.StopsExplored drawing) = IsSized 1000 drawing
IsInRange (asked.Threads hosts writes) = (3 ≤ hosts) × (hosts ≤ 16) × (writes ≤ 1000)
IsInRange (asked.Explore drawing save progress) = IsSized 100000 drawing
IsInRange (asked.Survey drawing last progress) = IsFew (drawing.seed, last) × IsSized 100000 drawing
IsInRange (asked.Until goal drawing last save progress) = IsFew (drawing.seed, last) × IsSized 100000 drawing
IsInRange _ = ⊤

-- ---- the command, as `clap` reads the words

-- the number that was given for an option, if one was; None where it is no number of the range
abbrev pub number_given : Text → ℕ → ℕ → List Row → Option (Option ℕ)
number_given name least most rows =
    option_map_or (λ text. option_map Some (decimal_in least most text)) (first_of name rows) (Some None)

-- the seed of a command that draws events
abbrev pub seed_given : List Row → Option (Option ℕ)
seed_given = number_given (codes "seed") 0 18446744073709551615

abbrev pub has_flag : Text → List Row → Bool
has_flag name rows = option_map_or (λ text. bytes_eq text (codes "true")) (first_of name rows) false

abbrev pub run_in : List Row → Option Asked
run_in rows = option_map asked.Run (number_given (codes "heap") 16 1048576 rows)

abbrev pub fuzz_in : List Row → Option Asked
fuzz_in rows = option_and_then (λ seed. option_map
    (λ steps. asked.Fuzz (unwrap_or seed 1) (unwrap_or steps 1000) (has_flag (codes "free") rows))
    (number_given (codes "steps") 0 100000 rows)) (seed_given rows)

-- `stops` of the events that `fuzz` draws
abbrev pub plain_in : List Row → Option Asked
plain_in rows = option_and_then (λ seed. option_map
    (λ steps. asked.Stops (unwrap_or seed 1) (unwrap_or steps 300))
    (number_given (codes "steps") 0 1000 rows)) (seed_given rows)

-- the number that was given for an option, or else this one; None where it is no number of the range
abbrev pub number_or : ℕ → Text → ℕ → ℕ → List Row → Option ℕ
number_or default name least most rows =
    option_map (λ given. unwrap_or given default) (number_given name least most rows)

abbrev pub threads_in : List Row → Option Asked
threads_in rows = option_and_then (λ hosts. option_map (λ writes. asked.Threads hosts writes)
    (number_or 10 (codes "writes") 0 1000 rows)) (number_or 4 (codes "hosts") 3 16 rows)

-- the range that two numbers make, of at most 10,000 numbers
abbrev pub range_between : ℕ → ℕ → Option (ℕ × ℕ)
range_between first last = if nat_le first last && nat_lt last (first + 10000) then Some (first, last) else None

-- the range of seeds whose first one is written so, and what stands after it and a point
abbrev pub range_of : Text → Text → Option (ℕ × ℕ)
range_of first [] = None
range_of first (point ∷ last) = if nat_eq point (byte ".") then option_and_then (λ a. option_and_then (range_between a)
    (decimal_in 0 18446744073709551615 last)) (decimal_in 0 18446744073709551615 first) else None

-- the range of seeds that is written as two numbers with two points between them
abbrev pub range_in : Text → Option (ℕ × ℕ)
range_in text = range_of (before_first (λ b. eqb b (byte ".")) text) (after_first (λ b. eqb b (byte ".")) text)

-- the seeds that were given, if they were; None where they are no range
abbrev pub seeds_given : List Row → Option (Option (ℕ × ℕ))
seeds_given rows = option_map_or (λ text. option_map Some (range_in text)) (first_of (codes "seeds") rows) (Some None)

abbrev pub has_option : Text → List Row → Bool
has_option name rows = option_map_or (λ _. true) (first_of name rows) false

-- what is drawn from this seed, with so many steps where none are given, and so many at most
unfoldable pub drawing_in : ℕ → ℕ → ℕ → List Row → Option Drawing
drawing_in seed usual most rows =
    option_and_then (λ steps. option_and_then (λ hosts. option_and_then (λ factor. option_map (λ segment. record {
      seed = seed;
      steps = steps;
      hosts = hosts;
      factor = factor;
      segment = segment;
      free = has_flag (codes "free") rows;
    }) (number_or 2 (codes "segment") 1 1024 rows)) (number_or 2 (codes "factor") 1 5 rows))
    (number_or 5 (codes "hosts") 1 16 rows)) (number_or usual (codes "steps") 0 most rows)

-- `stops` of the events that `explore` draws
abbrev pub explored_in : List Row → Option Asked
explored_in rows = option_and_then (λ seed.
    option_map asked.StopsExplored (drawing_in seed 300 1000 rows))
    (number_or 1 (codes "seed") 0 18446744073709551615 rows)

-- hosts, replicas or segments were given
abbrev pub is_sized : List Row → Bool
is_sized rows = has_option (codes "hosts") rows || has_option (codes "factor") rows
    || has_option (codes "segment") rows || has_flag (codes "free") rows

-- hosts, replicas and segments go with `--explored`
abbrev pub stops_in : List Row → Option Asked
stops_in rows =
    if has_flag (codes "explored") rows then explored_in rows else (if is_sized rows then None else plain_in rows)

-- `explore` of one seed
abbrev pub single_in : List Row → Option Asked
single_in rows = option_and_then (λ seed. option_map
    (λ drawing. asked.Explore drawing (has_flag (codes "save") rows) (has_flag (codes "progress") rows))
    (drawing_in seed 2000 100000 rows)) (number_or 1 (codes "seed") 0 18446744073709551615 rows)

-- `explore` of these seeds, which goes with neither `--seed` nor `--save`
abbrev pub survey_in : ℕ × ℕ → List Row → Option Asked
survey_in seeds rows = if has_option (codes "seed") rows || has_flag (codes "save") rows then None
    else option_map (λ drawing. asked.Survey drawing seeds.1 (has_flag (codes "progress") rows))
    (drawing_in seeds.0 2000 100000 rows)

-- the seeds that are looked through where none were given
abbrev pub first_seeds : ℕ × ℕ
first_seeds = (1, 10000)

abbrev pub seeds_or_first : List Row → Option (ℕ × ℕ)
seeds_or_first rows = option_map (λ seeds. unwrap_or seeds first_seeds) (seeds_given rows)

-- the first of these seeds that reaches what is named
abbrev pub sought_in : ℕ × ℕ → Text → List Row → Option Asked
sought_in seeds goal rows = option_map (λ drawing. asked.Until goal drawing seeds.1
    (has_flag (codes "save") rows) (has_flag (codes "progress") rows)) (drawing_in seeds.0 2000 100000 rows)

-- `explore` until a seed reaches what is named, which does not go with `--seed`
abbrev pub until_in : Text → List Row → Option Asked
until_in goal rows = if has_option (codes "seed") rows then None else
    option_and_then (λ seeds. sought_in seeds goal rows) (seeds_or_first rows)

abbrev pub drawn_by : Option (ℕ × ℕ) → List Row → Option Asked
drawn_by None rows = single_in rows
drawn_by (Some seeds) rows = survey_in seeds rows

-- `explore` of one seed, or of several
abbrev pub drawn_in : List Row → Option Asked
drawn_in rows = option_and_then (λ seeds. drawn_by seeds rows) (seeds_given rows)

abbrev pub explore_by : Option Text → List Row → Option Asked
explore_by None rows = drawn_in rows
explore_by (Some goal) rows = until_in goal rows

abbrev pub explore_in : List Row → Option Asked
explore_in rows = explore_by (first_of (codes "until") rows) rows

abbrev pub shrink_in : List Row → Option Asked
shrink_in rows = option_map asked.Shrink (first_of (codes "keep") rows)

abbrev pub heal_in : List Row → Option Asked
heal_in rows = Some (asked.Heal (has_flag (codes "power-cycle") rows))

-- the command of this name, with what was given for its options; first of those that read nothing
abbrev pub unread_in : Text → List Row → Option Asked
unread_in name rows =
    if bytes_eq name (codes "fuzz") then fuzz_in rows
    else (if bytes_eq name (codes "stops") then stops_in rows
    else (if bytes_eq name (codes "threads") then threads_in rows else None))

-- a command that needs no memory of its own
abbrev pub named_in : Text → List Row → Option Asked
named_in name rows =
    if bytes_eq name (codes "run") then run_in rows
    else (if bytes_eq name (codes "trace") then Some asked.Trace
    else (if bytes_eq name (codes "audit") then Some asked.Audit
    else (if bytes_eq name (codes "history") then Some asked.History
    else (if bytes_eq name (codes "check") then Some asked.Check
    else (if bytes_eq name (codes "log") then Some asked.Log
    else (if bytes_eq name (codes "heal") then heal_in rows
    else unread_in name rows))))))

abbrev pub command_in : Text → List Row → Option Asked
command_in name rows =
    if bytes_eq name (codes "shrink") then shrink_in rows
    else (if bytes_eq name (codes "explore") then explore_in rows else named_in name rows)

-- nothing, where `clap` finds a fault in the words
abbrev pub where_taken : Kinds → Option Asked → Option Asked
where_taken [] command = command
where_taken (k ∷ ks) command = None

-- the command that the words ask for
abbrev pub asked_in : List Text → Option Asked
asked_in words = where_taken (fault_of ramseg words)
    (option_and_then (λ found. command_in found.0 found.1) (subcommand_of ramseg words))

-- ---- the texts

-- help and the version are no mistakes
abbrev pub is_request : ErrorKind → Bool
is_request kind.DisplayHelp = true
is_request kind.DisplayVersion = true
is_request _ = false

-- help or the version is told where the words ask for it, and nothing else is
abbrev pub Tells : Kinds → Asked → Type 0
Tells [] a = is_text a ≡ false
Tells (k ∷ ks) a = (one : ErrorKind) × IsAmong one (k ∷ ks) × (is_request one ≡ is_text a)

-- ---- lines without options, by their words alone

-- no word stands there, or `--` alone, which ends the options
abbrev pub is_end : List Text → Bool
is_end [] = true
is_end (word ∷ []) = bytes_eq word (codes "--")
is_end (word ∷ other ∷ rest) = false

-- the command's name, with nothing after it
abbrev pub is_alone : Text → List Text → Bool
is_alone name [] = false
is_alone name (word ∷ rest) = bytes_eq name word && is_end rest

abbrev pub names : List Text
names = codes "run" ∷ codes "trace" ∷ codes "audit" ∷ codes "fuzz" ∷ codes "stops" ∷ codes "threads" ∷ codes "explore"
    ∷ codes "log" ∷ codes "shrink" ∷ codes "heal" ∷ codes "history" ∷ codes "check" ∷ []

abbrev pub is_command : Text → Bool
is_command word = list_any (λ name. bytes_eq name word) names

-- a hyphen and letters, of which this is the first, as `-h` and `-hx` for `h`
abbrev pub is_letter_flag : ℕ → Text → Bool
is_letter_flag letter word = option_map_or
    (λ letters. option_map_or (λ first. letter == first) (slice_get (chars letters) 0) false) (short_of word) false

-- `--help` or `-h`
abbrev pub is_help : Text → Bool
is_help word = bytes_eq (codes "--help") word || is_letter_flag (byte "h") word

-- `--version` or `-V`
abbrev pub is_version : Text → Bool
is_version word = bytes_eq (codes "--version") word || is_letter_flag (byte "V") word

abbrev pub begins_with_help : List Text → Bool
begins_with_help [] = false
begins_with_help (word ∷ rest) = is_help word

-- the first word asks for help or the version, or that after a command for help
abbrev pub asks_for_text : List Text → Bool
asks_for_text [] = false
asks_for_text (word ∷ rest) = if is_command word then begins_with_help rest else (is_help word || is_version word)

abbrev pub stopping : List Text
stopping = codes "seed" ∷ codes "steps" ∷ codes "hosts" ∷ codes "factor" ∷ codes "segment"
    ∷ codes "free" ∷ codes "explored" ∷ []

abbrev pub exploring : List Text
exploring = codes "seed" ∷ codes "steps" ∷ codes "hosts" ∷ codes "factor" ∷ codes "segment"
    ∷ codes "free" ∷ codes "save" ∷ codes "seeds" ∷ codes "progress" ∷ codes "until" ∷ []

-- the options of a command
abbrev pub options_of : Text → List Text
options_of name =
    if bytes_eq (codes "run") name then codes "heap" ∷ []
    else (if bytes_eq (codes "fuzz") name then codes "seed" ∷ codes "steps" ∷ codes "free" ∷ []
    else (if bytes_eq (codes "stops") name then stopping
    else (if bytes_eq (codes "threads") name then codes "hosts" ∷ codes "writes" ∷ []
    else (if bytes_eq (codes "explore") name then exploring
    else (if bytes_eq (codes "log") name then codes "json" ∷ []
    else (if bytes_eq (codes "shrink") name then codes "keep" ∷ []
    else (if bytes_eq (codes "heal") name then codes "power-cycle" ∷ [] else [])))))))

-- `--NAME` or `--NAME=VALUE`, for one of these options
abbrev pub is_option : List Text → Text → Bool
is_option options word =
    option_map_or (λ flag. list_any (λ option. bytes_eq option flag.0) options) (long_of word) false

-- neither is the first word `help`, nor the second an option of a command that is the first
abbrev pub is_plain : List Text → Bool
is_plain [] = true
is_plain (word ∷ []) = not (bytes_eq (codes "help") word)
is_plain (word ∷ next ∷ rest) = not (bytes_eq (codes "help") word) &&
    not (is_option (options_of word) next)

-- ---- lines with each option once

abbrev pub heap_line : Text → List Text
heap_line bytes = codes "run" ∷ (codes "--heap=" ++ bytes) ∷ []

abbrev pub fuzz_line : Text → Text → List Text
fuzz_line seed steps =
    codes "fuzz" ∷ (codes "--seed=" ++ seed) ∷ (codes "--steps=" ++ steps) ∷ codes "--free" ∷ []

abbrev pub stops_line : Text → Text → List Text
stops_line seed steps = codes "stops" ∷ (codes "--seed=" ++ seed) ∷ (codes "--steps=" ++ steps) ∷ []

-- both, where both are there
abbrev pub option_zip_with : {X : Type 0} → (ℕ → ℕ → X) → Option ℕ → Option ℕ → Option X
option_zip_with f one other = option_and_then (λ x. option_map (f x) other) one
