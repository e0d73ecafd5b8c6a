-- Parsing of the command line, one argument at a time. Only private functions refer to these definitions.
use Rattle.std.specs.Prelude.{◌≡◌, ◌⊎◌, ℕ, ◌^◌, Bool, true, false, ◌&&◌, if◌then◌else◌, nat_eq, nat_lt, List, [], ◌∷◌, length}
use Rattle.std.specs.Prelude.{Option, Some, None, Result, Ok, Err, codes, find, map}
use Rattle.std.specs.Option.{option_map}
use Rattle.std.specs.List.{list_all}
use Rattle.std.specs.Char.{digit_value}
use Rattle.std.specs.Str.{bytes_eq}
use Rattle.std.specs.Str.Parse.{digits_value, without_leading_plus}
use Rattle.packet_dump.specs.Options.{Asked, Fault, Item, Settings, asked_of, bad_value, count, crowded_filter}
use Rattle.packet_dump.specs.Options.{default_settings, dump, explain, filter, filter_texts}
use Rattle.packet_dump.specs.Options.{fault_of, file, form_name, help, hex, hex_frame, is_dashed, is_taken, kind_name}
use Rattle.packet_dump.specs.Options.{limit, no_names, no_value, only, option_word, quiet, reassemble, second_file}
use Rattle.packet_dump.specs.Options.{standard_input, streams, strict, summary, time, timeout, unknown_option, verbose}
use Rattle.packet_dump.specs.Options.{version, with_item, write, fragment_age, fragment_bytes, overlap, policy_name}
use Rattle.packet_dump.specs.Options.{argument, out_of_memory, run_of}
use Rattle.packet_dump.specs.declared.options.Awaited.{Awaited}
use Rattle.packet_dump.specs.declared.options.Awaited.TheVariants.{Count, Only, Time, Timeout, Limit, Write, Streams, Filter, Input}
use Rattle.packet_dump.specs.declared.options.Awaited.TheVariants.{FragmentBytes, FragmentAge, Overlap, Explain}
use Rattle.packet_dump.specs.declared.options.FilterKind.TheVariants.{Host, Port, Vlan, Net}
use Rattle.packet_dump.specs.declared.options.Joined.{Joined}
use Rattle.packet_dump.specs.declared.options.Reading.{Reading}
use Rattle.packet_dump.specs.declared.options.Request.{Request}
use Rattle.packet_dump.specs.declared.options.UsageError.{UsageError}
use Rattle.packet_dump.specs.declared.options.Word.{Word}
use Rattle.packet_dump.specs.declared.options.Word.TheVariants as word
use Rattle.packet_dump.specs.declared.dump_options.Kind.{Kind}
use Rattle.packet_dump.specs.declared.dump_options.Kind.TheVariants as kind
use Rattle.packet_dump.specs.declared.dump_options.TimeForm.{TimeForm}
use Rattle.packet_dump.specs.declared.dump_options.TimeForm.TheVariants.{Relative, Epoch, Utc}
use Rattle.etherparse.specs.Types.OverlapPolicy.{OverlapPolicy}
use Rattle.etherparse.specs.Types.OverlapPolicy.TheVariants.{LastWins, FirstWins, Discard}

-- the arguments that begin with `-`, with their meaning
abbrev pub word_table : List (List ℕ × Word)
word_table =
    (codes "-h", word.Help) ∷ (codes "--help", word.Help) ∷ (codes "-V", word.Version)
    ∷ (codes "--version", word.Version) ∷ (codes "--hex", word.Hex) ∷ (codes "--hex=frame", word.HexFrame)
    ∷ (codes "--strict", word.Strict) ∷ (codes "--verbose", word.Verbose) ∷ (codes "--summary", word.Summary)
    ∷ (codes "--quiet", word.Quiet)
    ∷ (codes "--reassemble", word.Reassemble) ∷ (codes "-n", word.NoNames) ∷ (codes "-nn", word.NoNames)
    ∷ (codes "--count", word.Option Count) ∷ (codes "--only", word.Option Only)
    ∷ (codes "--time", word.Option Time) ∷ (codes "--timeout", word.Option Timeout)
    ∷ (codes "--limit", word.Option Limit) ∷ (codes "--write", word.Option Write)
    ∷ (codes "--streams", word.Option Streams)
    ∷ (codes "--fragment-bytes", word.Option FragmentBytes)
    ∷ (codes "--fragment-age", word.Option FragmentAge) ∷ (codes "--overlap", word.Option Overlap)
    ∷ (codes "--host", word.Option (Filter Host)) ∷ (codes "--port", word.Option (Filter Port))
    ∷ (codes "--vlan", word.Option (Filter Vlan)) ∷ (codes "--net", word.Option (Filter Net))
    ∷ (codes "-c", word.Option Count) ∷ (codes "-r", word.Option Input)
    ∷ (codes "--explain", word.Option Explain) ∷ (codes "-", word.StandardInput) ∷ []

-- the meaning of an argument that is no value of an option, by a table
abbrev pub word_in : List (List ℕ × Word) → List ℕ → Word
word_in [] text = if is_dashed text then word.Unknown else word.Plain
word_in (row ∷ rows) text = if bytes_eq text row.0 then row.1 else word_in rows text

abbrev pub word_named : List ℕ → Word
word_named text = word_in word_table text

-- the text before the first `=` and the text after it, if there is one
abbrev pub parts_at_equals : List ℕ → Option (List ℕ × List ℕ)
parts_at_equals [] = None
parts_at_equals (byte ∷ bytes) =
    if nat_eq byte 61
    then Some ([], bytes)
    else option_map (λ parts. (byte ∷ parts.0, parts.1)) (parts_at_equals bytes)

-- the option with the given value, if the word is an option that has one
abbrev pub option_with : Word → List ℕ → Option (Awaited × List ℕ)
option_with (word.Option option) value = Some (option, value)
option_with other value = None

-- an option and its value in one argument, separated by `=`
abbrev pub joined_from : Option (List ℕ × List ℕ) → Option (Awaited × List ℕ)
joined_from (Some parts) = option_with (word_named parts.0) parts.1
joined_from None = None

abbrev pub joined_in : List ℕ → Option (Awaited × List ℕ)
joined_in text = joined_from (parts_at_equals text)

-- the number of an argument, if it fits in this number of bits
abbrev pub number_in : ℕ → List ℕ → Option ℕ
number_in bits word =
    let digits = without_leading_plus word in
    if nat_lt 0 (length digits) && list_all (λ digit. nat_lt (digit_value digit) 10) digits
    && nat_lt (digits_value 10 digits) (2 ^ bits)
    then Some (digits_value 10 digits)
    else None

-- the kind of packets with the given name
abbrev pub kind_named : List ℕ → Option Kind
kind_named name =
    find (λ kind. bytes_eq name (kind_name kind)) (kind.Udp ∷ kind.Tcp ∷ kind.Icmp ∷ kind.Arp ∷ kind.Refused ∷ kind.Stopped ∷ [])

-- the time format with the given name
abbrev pub form_named : List ℕ → Option TimeForm
form_named name = find (λ form. bytes_eq name (form_name form)) (Relative ∷ Epoch ∷ Utc ∷ [])

-- the policy for overlapping fragments with the given name
abbrev pub policy_named : List ℕ → Option OverlapPolicy
policy_named name = find (λ policy. bytes_eq name (policy_name policy)) (LastWins ∷ FirstWins ∷ Discard ∷ [])

-- the value of an option, if the argument is one
abbrev pub value_in : Awaited → List ℕ → Option Item
value_in Count word = option_map count (number_in 64 word)
value_in Only word = option_map only (kind_named word)
value_in Time word = option_map time (form_named word)
value_in Timeout word = option_map timeout (number_in 32 word)
value_in Limit word = option_map limit (number_in 16 word)
value_in Write word = Some (write word)
value_in Streams word = option_map streams (number_in 64 word)
value_in FragmentBytes word = option_map fragment_bytes (number_in 64 word)
value_in FragmentAge word = option_map fragment_age (number_in 32 word)
value_in Overlap word = option_map overlap (policy_named word)
value_in (Filter kind) word = Some (filter kind word)
value_in Input word = Some (file word)
value_in Explain word = Some (explain word)

-- the state of the parser
pub record State : Type 0 where
  pub settings : Settings
  pub awaited : Option Awaited

abbrev pub first_state : State
first_state = record { settings = default_settings; awaited = None }

abbrev pub reading_state : Reading → State
reading_state reading = record {
  settings = record {
    options = reading.options;
    filters = filter_texts reading.filter;
    crowded = reading.crowded;
    words = map (λ text. text.now) reading.words.items;
    path = option_map (λ name. name.now) reading.path;
    named = reading.is_named;
    target = option_map (λ name. name.now) reading.target;
    summary = reading.summary;
    explained = option_map (λ text. text.now) reading.explained;
  };
  awaited = reading.awaited;
}

-- the state after a value that is kept as text: a filter option, an expression, or the name of the file to write
abbrev pub filtered : State → Awaited → List ℕ → State
filtered state Write text = record state { settings = with_item state.settings (write text) }
filtered state (Filter kind) text = record state { settings = with_item state.settings (filter kind text) }
filtered state Explain text = record state { settings = with_item state.settings (explain text) }
filtered state option text = state

-- The first of some words was removed, if there are any, and is the result.
abbrev pub IsFirstRemoved : {A : Type 0} → List A → List A → Option A → Type 0
IsFirstRemoved [] later None = later ≡ []
IsFirstRemoved [] later (Some word) = ⊥
IsFirstRemoved (first ∷ others) later None = ⊥
IsFirstRemoved (first ∷ others) later (Some word) = (later ≡ others) × (word ≡ first)

-- the result of an argument: the state for more arguments, or the answer
pub data Step : Type 0 where
  more : State → Step
  done : Result Asked Fault → Step

-- the step of an item
abbrev pub item_step : State → Item → Step
item_step state item = more (record { settings = with_item state.settings item; awaited = None })

-- the step of an item, given whether it names a second input, by this text
abbrev pub item_or_fault_step : State → List ℕ → Item → Bool → Step
item_or_fault_step state text item true = done (Err (second_file text))
item_or_fault_step state text item false = item_step state item

abbrev pub step_unless_taken : State → List ℕ → Item → Step
step_unless_taken state text item = item_or_fault_step state text item (is_taken state.settings item)

-- the step of the value of an option
abbrev pub value_step : State → Awaited → List ℕ → Option Item → Step
value_step state option text (Some item) = step_unless_taken state text item
value_step state option text None = done (Err (bad_value option text))

-- the step of an argument that begins with `-` and is in no row of the table: an option joined to its value, or unknown
abbrev pub joined_step : State → List ℕ → Option (Awaited × List ℕ) → Step
joined_step state text (Some joined) = value_step state joined.0 joined.1 (value_in joined.0 joined.1)
joined_step state text None = done (Err (unknown_option text))

-- the step of an argument that is no value
abbrev pub word_step : State → List ℕ → Word → Step
word_step state text word.Help = done (Ok help)
word_step state text word.Version = done (Ok version)
word_step state text word.Hex = item_step state hex
word_step state text word.HexFrame = item_step state hex_frame
word_step state text word.Strict = item_step state strict
word_step state text word.Verbose = item_step state verbose
word_step state text word.Summary = item_step state summary
word_step state text word.Quiet = item_step state quiet
word_step state text word.Reassemble = item_step state reassemble
word_step state text word.NoNames = item_step state no_names
word_step state text (word.Option option) = more (record state { awaited = Some option })
word_step state text word.StandardInput = step_unless_taken state text standard_input
word_step state text word.Plain = item_step state (argument text)
word_step state text word.Unknown = joined_step state text (joined_in text)

-- the step of an argument
abbrev pub step_from : State → List ℕ → Option Awaited → Step
step_from state text (Some option) = value_step state option text (value_in option text)
step_from state text None = word_step state text (word_named text)

abbrev pub step : State → List ℕ → Step
step state text = step_from state text state.awaited

-- the answer after the last argument
abbrev pub finished_from : State → Option Awaited → Result Asked Fault
finished_from state (Some option) = Err (no_value (option_word option))
finished_from state None = if state.settings.crowded then Err crowded_filter else Ok (dump (run_of state.settings))

abbrev pub finished : State → Result Asked Fault
finished state = finished_from state state.awaited

-- an option and its value that were in one argument
abbrev pub joined_parts : Joined → Awaited × List ℕ
joined_parts joined = (joined.option, joined.value.now)

-- The step has this answer and leaves this state, or the error is that the allocation failed.
abbrev pub IsStepResult : Step → State → Result (Option Request) UsageError → Type 0
IsStepResult step state (Ok None) = step ≡ more state
IsStepResult step state (Ok (Some request)) = step ≡ done (Ok (asked_of request))
IsStepResult step state (Err error) = (fault_of error ≡ out_of_memory) ⊎ (step ≡ done (Err (fault_of error)))
