-- Requests and errors of a command line. An argument is the list of its bytes.
use Rattle.std.specs.Prelude.{◌≡◌, ℕ, ◌^◌, ◌<◌, ◌⊎◌, ◌==◌, ◌||◌, Bool, true, false, nat_eq, not, List, [], ◌∷◌, ◌++◌, Option}
use Rattle.std.specs.Prelude.{Some, None, Result, Ok, Err, codes, drop, fold, if◌then◌else◌, is_some, length, map, replicate, take, String, string_bytes}
use Rattle.std.specs.List.{list_any, starts_with}
use Rattle.std.specs.Option.{option_map}
use Rattle.std.specs.Str.{bytes_eq}
use Rattle.std.specs.Str.Parse.{IsNumeral, digits_value, without_leading_plus}
use Rattle.packet_dump.specs.declared.options.Awaited.{Awaited}
use Rattle.packet_dump.specs.declared.options.Awaited.TheVariants.{Count, Only, Time, Timeout, Limit, Write, Streams, Filter, Input}
use Rattle.packet_dump.specs.declared.options.Awaited.TheVariants.{FragmentBytes, FragmentAge, Overlap, Explain}
use Rattle.packet_dump.specs.declared.options.FilterKind.{FilterKind}
use Rattle.packet_dump.specs.declared.options.FilterKind.TheVariants.{Host, Port, Vlan, Net}
use Rattle.packet_dump.specs.declared.options.FilterText.{FilterText}
use Rattle.packet_dump.specs.declared.options.FilterTexts.{FilterTexts}
use Rattle.packet_dump.specs.declared.options.Request.{Request}
use Rattle.packet_dump.specs.declared.options.Request.TheVariants as request
use Rattle.packet_dump.specs.declared.options.UsageError.{UsageError}
use Rattle.packet_dump.specs.declared.options.UsageError.TheVariants as usage
use Rattle.packet_dump.specs.declared.dump_options.Kind.{Kind}
use Rattle.packet_dump.specs.declared.dump_options.Kind.TheVariants as kind
use Rattle.packet_dump.specs.declared.dump_options.DumpOptions.{DumpOptions}
use Rattle.packet_dump.specs.declared.dump_options.TimeForm.{TimeForm}
use Rattle.packet_dump.specs.declared.dump_options.TimeForm.TheVariants.{Relative, Epoch, Utc}
use Rattle.etherparse.specs.Types.OverlapPolicy.{OverlapPolicy}
use Rattle.etherparse.specs.Types.OverlapPolicy.TheVariants as policy

-- the name of a kind of packets on the command line
abbrev pub kind_name : Kind → List ℕ
kind_name kind.Udp = codes "udp"
kind_name kind.Tcp = codes "tcp"
kind_name kind.Icmp = codes "icmp"
kind_name kind.Arp = codes "arp"
kind_name kind.Refused = codes "refused"
kind_name kind.Stopped = codes "stopped"

-- the name of a time format on the command line
abbrev pub form_name : TimeForm → List ℕ
form_name Relative = codes "relative"
form_name Epoch = codes "epoch"
form_name Utc = codes "utc"

-- the name of a policy for overlapping fragments on the command line
abbrev pub policy_name : OverlapPolicy → List ℕ
policy_name policy.LastWins = codes "last"
policy_name policy.FirstWins = codes "first"
policy_name policy.Discard = codes "discard"

-- the options that add an expression to the filter
abbrev pub filter_option : FilterKind → List ℕ
filter_option Host = codes "--host"
filter_option Port = codes "--port"
filter_option Vlan = codes "--vlan"
filter_option Net = codes "--net"

-- the name of an option with a value, as it is in error messages
abbrev pub option_word : Awaited → List ℕ
option_word Count = codes "--count"
option_word Only = codes "--only"
option_word Time = codes "--time"
option_word Timeout = codes "--timeout"
option_word Limit = codes "--limit"
option_word Write = codes "--write"
option_word Streams = codes "--streams"
option_word FragmentBytes = codes "--fragment-bytes"
option_word FragmentAge = codes "--fragment-age"
option_word Overlap = codes "--overlap"
option_word (Filter kind) = filter_option kind
option_word Input = codes "-r"
option_word Explain = codes "--explain"

-- The argument is a name of the option.
abbrev pub IsOptionWord : Awaited → List ℕ → Type 0
IsOptionWord Count word = (word ≡ codes "--count") ⊎ (word ≡ codes "-c")
IsOptionWord option word = word ≡ option_word option

-- The argument is the option and this value, separated by `=`.
abbrev pub IsJoined : Awaited → List ℕ → List ℕ → Type 0
IsJoined option value word = (name : List ℕ) × IsOptionWord option name × (word ≡ name ++ codes "=" ++ value)

-- The arguments are the option and this value, in two arguments or in one.
abbrev pub AreSpelled : Awaited → List ℕ → List (List ℕ) → Type 0
AreSpelled option value words =
    ((name : List ℕ) × IsOptionWord option name × (words ≡ name ∷ value ∷ []))
    ⊎ ((word : List ℕ) × IsJoined option value word × (words ≡ word ∷ []))

-- True if an argument begins with `-`.
abbrev pub is_dashed : List ℕ → Bool
is_dashed word = starts_with nat_eq word (codes "-")

-- the known arguments that begin with `-`
abbrev pub known_words : List (List ℕ)
known_words =
    codes "-h" ∷ codes "--help" ∷ codes "-V" ∷ codes "--version" ∷ codes "--hex" ∷ codes "--hex=frame"
    ∷ codes "--strict" ∷ codes "--verbose" ∷ codes "--summary" ∷ codes "--quiet" ∷ codes "--reassemble"
    ∷ codes "-n" ∷ codes "-nn" ∷ codes "--count" ∷ codes "--only" ∷ codes "--time" ∷ codes "--timeout"
    ∷ codes "--limit" ∷ codes "--write" ∷ codes "--streams" ∷ codes "--fragment-bytes" ∷ codes "--fragment-age"
    ∷ codes "--overlap" ∷ codes "--host" ∷ codes "--port" ∷ codes "--vlan" ∷ codes "--net" ∷ codes "-c" ∷ codes "-r"
    ∷ codes "--explain" ∷ codes "-" ∷ []

-- True if an argument is one of the known ones.
abbrev pub is_known : List ℕ → Bool
is_known word = list_any (λ known. bytes_eq word known) known_words

-- The argument is this number, less than 2^bits: decimal digits, with an optional plus sign before them.
abbrev pub IsNumber : ℕ → List ℕ → ℕ → Type 0
IsNumber bits word number =
    IsNumeral 10 (without_leading_plus word) × (digits_value 10 (without_leading_plus word) ≡ number)
    × (number < 2 ^ bits)

-- One item of a request.
pub data Item : Type 0 where
  hex : Item
  hex_frame : Item
  strict : Item
  verbose : Item
  summary : Item
  quiet : Item
  reassemble : Item
  no_names : Item
  count : ℕ → Item
  only : Kind → Item
  time : TimeForm → Item
  timeout : ℕ → Item
  limit : ℕ → Item
  write : List ℕ → Item
  streams : ℕ → Item
  fragment_bytes : ℕ → Item
  fragment_age : ℕ → Item
  overlap : OverlapPolicy → Item
  filter : FilterKind → List ℕ → Item
  file : List ℕ → Item
  standard_input : Item
  explain : List ℕ → Item
  argument : List ℕ → Item

-- The argument is this value of the option.
abbrev pub IsValue : Awaited → List ℕ → Item → Type 0
IsValue Count word (count number) = IsNumber 64 word number
IsValue Only word (only kind) = word ≡ kind_name kind
IsValue Time word (time form) = word ≡ form_name form
IsValue Timeout word (timeout seconds) = IsNumber 32 word seconds
IsValue Limit word (limit bytes) = IsNumber 16 word bytes
IsValue Write word (write name) = word ≡ name
IsValue Streams word (streams number) = IsNumber 64 word number
IsValue FragmentBytes word (fragment_bytes bytes) = IsNumber 64 word bytes
IsValue FragmentAge word (fragment_age seconds) = IsNumber 32 word seconds
IsValue Overlap word (overlap policy) = word ≡ policy_name policy
IsValue (Filter kind) word (filter other said) = (kind ≡ other) × (word ≡ said)
IsValue Input word (file name) = word ≡ name
IsValue Explain word (explain text) = word ≡ text
IsValue option word item = ⊥

-- The arguments are an option and its value, which is this item.
abbrev pub IsOption : List (List ℕ) → Item → Type 0
IsOption words item =
    (option : Awaited) × (value : List ℕ) × AreSpelled option value words × IsValue option value item

-- The arguments request this item.
abbrev pub IsItem : List (List ℕ) → Item → Type 0
IsItem words hex = words ≡ codes "--hex" ∷ []
IsItem words hex_frame = words ≡ codes "--hex=frame" ∷ []
IsItem words strict = words ≡ codes "--strict" ∷ []
IsItem words verbose = words ≡ codes "--verbose" ∷ []
IsItem words summary = words ≡ codes "--summary" ∷ []
IsItem words quiet = words ≡ codes "--quiet" ∷ []
IsItem words reassemble = words ≡ codes "--reassemble" ∷ []
IsItem words no_names = (words ≡ codes "-n" ∷ []) ⊎ (words ≡ codes "-nn" ∷ [])
IsItem words standard_input = words ≡ codes "-" ∷ []
IsItem words (argument text) = (words ≡ text ∷ []) × (is_dashed text ≡ false)
IsItem words item = IsOption words item

-- Six slots for filter options as text. They are parsed after the command line.
abbrev pub Filters : Type 0
Filters = List (Option (FilterKind × List ℕ))

-- the filter options of the command line as text
abbrev pub filter_places : FilterTexts → List (Option FilterText)
filter_places words =
    words.first ∷ words.second ∷ words.third ∷ words.fourth ∷ words.fifth ∷ words.sixth ∷ []

abbrev pub filter_texts : FilterTexts → Filters
filter_texts words = map (λ place. option_map (λ word. (word.kind, word.text.now)) place) (filter_places words)

-- True if the last slot is taken.
abbrev pub is_full : Filters → Bool
is_full filters = list_any (λ slot. is_some slot) (drop 5 filters)

-- The settings of arguments: the options, the filter options, the last one first, and whether there are more than slots;
-- the arguments that are no options; the name of the input file by `-r`, if any, and whether `-r` or `-` names the input;
-- the name of the file to write and the expression to explain, if any; and whether a summary follows.
pub record Settings : Type 0 where
  pub options : DumpOptions
  pub filters : Filters
  pub crowded : Bool
  pub words : List (List ℕ)
  pub path : Option (List ℕ)
  pub named : Bool
  pub target : Option (List ℕ)
  pub summary : Bool
  pub explained : Option (List ℕ)

-- the settings without any item
abbrev pub default_settings : Settings
default_settings = record {
  options = record {
    only = None;
    filter = None;
    time = Relative;
    most = 18446744073709551615;
    quiet = false;
    hex = false;
    whole = false;
    strict = false;
    verbose = false;
    reassemble = false;
    timeout = 30;
    limit = 65535;
    streams = 256;
    fragment_bytes = None;
    fragment_age = None;
    overlap = None;
  };
  filters = replicate 6 None;
  crowded = false;
  words = [];
  path = None;
  named = false;
  target = None;
  summary = false;
  explained = None;
}

-- the options after an item
abbrev pub options_with : DumpOptions → Item → DumpOptions
options_with options hex = record options { hex = true; whole = false }
options_with options hex_frame = record options { hex = true; whole = true }
options_with options strict = record options { strict = true }
options_with options quiet = record options { quiet = true }
options_with options verbose = record options { verbose = true }
options_with options reassemble = record options { reassemble = true }
options_with options (count number) = record options { most = number }
options_with options (only kind) = record options { only = Some kind }
options_with options (time form) = record options { time = form }
options_with options (timeout seconds) = record options { timeout = seconds }
options_with options (limit bytes) = record options { limit = bytes }
options_with options (streams number) = record options { streams = number }
options_with options (fragment_bytes bytes) = record options { fragment_bytes = Some bytes }
options_with options (fragment_age seconds) = record options { fragment_age = Some seconds }
options_with options (overlap policy) = record options { overlap = Some policy }
options_with options item = options

-- the file of `-r`; none for `-`, which is standard input
abbrev pub path_named : List ℕ → Option (List ℕ)
path_named name = if bytes_eq name (codes "-") then None else Some name

-- the settings after an item
abbrev pub with_item : Settings → Item → Settings
with_item settings summary = record settings { summary = true }
with_item settings (filter kind text) = record settings {
  filters = Some (kind, text) ∷ take 5 settings.filters;
  crowded = settings.crowded || is_full settings.filters;
}
with_item settings (file name) = record settings { path = path_named name; named = true }
with_item settings (write name) = record settings { target = Some name }
with_item settings standard_input = record settings { named = true }
with_item settings (explain text) = record settings { explained = Some text }
with_item settings (argument text) = record settings { words = settings.words ++ text ∷ [] }
with_item settings item = record settings { options = options_with settings.options item }

-- the settings of the items: the last one of several of an option decides, but the last six filter options are kept
abbrev pub settings_of : List Item → Settings
settings_of items = fold with_item default_settings items

-- True if the input was named, by an option or by the first argument that is none.
abbrev pub has_input : Settings → Bool
has_input settings = settings.named || not (length settings.words == 0)

-- True if an item names the input, and it was named already. A file before `-r` is a word of the filter expression.
abbrev pub is_taken : Settings → Item → Bool
is_taken settings (file name) = settings.named
is_taken settings standard_input = has_input settings
is_taken settings item = false

-- The arguments are those of these items in order, and then `rest`. None names a second input.
abbrev pub Begin : Settings → List (List ℕ) → List Item → List (List ℕ) → Type 0
Begin before words [] rest = words ≡ rest
Begin before words (item ∷ items) rest =
    (own more : List (List ℕ)) × (words ≡ own ++ more) × IsItem own item × (is_taken before item ≡ false)
    × Begin (with_item before item) more items rest

-- The run that a command line without errors requests: the options and the filter options; the name of the input file,
-- if it is not standard input; the words of the filter expression; the name of the file to write and the expression to
-- explain, if any; and whether a summary follows.
pub record Run : Type 0 where
  pub options : DumpOptions
  pub filters : Filters
  pub path : Option (List ℕ)
  pub words : List (List ℕ)
  pub target : Option (List ℕ)
  pub summary : Bool
  pub explained : Option (List ℕ)

-- the file and the words of the expression, given whether an option names the input: if not, the first word is the file
abbrev pub parted : Bool → Option (List ℕ) → List (List ℕ) → Option (List ℕ) × List (List ℕ)
parted true path words = (path, words)
parted false path [] = (None, [])
parted false path (first ∷ others) = (Some first, others)

-- the run of these settings with this file and these words
abbrev pub run_with : Settings → Option (List ℕ) × List (List ℕ) → Run
run_with settings parts = record {
  options = settings.options;
  filters = settings.filters;
  path = parts.0;
  words = parts.1;
  target = settings.target;
  summary = settings.summary;
  explained = settings.explained;
}

abbrev pub run_of : Settings → Run
run_of settings = run_with settings (parted settings.named settings.path settings.words)

-- a request of a command line
pub data Asked : Type 0 where
  help : Asked
  version : Asked
  dump : Run → Asked

-- an error of a command line
pub data Fault : Type 0 where
  unknown_option : List ℕ → Fault
  no_value : List ℕ → Fault
  bad_value : Awaited → List ℕ → Fault
  second_file : List ℕ → Fault
  crowded_filter : Fault
  out_of_memory : Fault

-- the request as a definition
abbrev pub asked_of : Request → Asked
asked_of request.Help = help
asked_of request.Version = version
asked_of (request.Dump options slots path words explained target summarized) = dump (record {
  options = options;
  filters = filter_texts slots;
  path = option_map (λ name. name.now) path;
  words = map (λ text. text.now) words.items;
  target = option_map (λ name. name.now) target;
  summary = summarized;
  explained = option_map (λ text. text.now) explained;
})

-- the error as a definition
abbrev pub fault_of : UsageError → Fault
fault_of (usage.UnknownOption word) = unknown_option word.now
fault_of (usage.NoValue option) = no_value option.now
fault_of (usage.NotACount word) = bad_value Count word.now
fault_of (usage.NotAKind word) = bad_value Only word.now
fault_of (usage.NotATimeForm word) = bad_value Time word.now
fault_of (usage.NotATimeout word) = bad_value Timeout word.now
fault_of (usage.NotALimit word) = bad_value Limit word.now
fault_of (usage.NotAStreamCount word) = bad_value Streams word.now
fault_of (usage.NotAByteCount word) = bad_value FragmentBytes word.now
fault_of (usage.NotAnAge word) = bad_value FragmentAge word.now
fault_of (usage.NotAPolicy word) = bad_value Overlap word.now
fault_of (usage.SecondFile word) = second_file word.now
fault_of usage.CrowdedFilter = crowded_filter
fault_of usage.OutOfMemory = out_of_memory

-- the answer of the parser as a definition
abbrev pub answer_of : Result Request UsageError → Result Asked Fault
answer_of (Ok request) = Ok (asked_of request)
answer_of (Err error) = Err (fault_of error)

-- The arguments begin with this one.
abbrev pub Leads : List ℕ → List (List ℕ) → Type 0
Leads word words = (others : List (List ℕ)) × (words ≡ word ∷ others)

-- The arguments begin with those that name a second input, by this argument.
abbrev pub LeadsInput : Settings → List ℕ → List (List ℕ) → Type 0
LeadsInput settings word words =
    (Leads word words × (word ≡ codes "-") × (has_input settings ≡ true))
    ⊎ ((own others : List (List ℕ)) × AreSpelled Input word own × (words ≡ own ++ others) × (settings.named ≡ true))

-- The rest of the arguments, after items with these settings, completes this request: the text that the first argument
-- asks for, or a dump if there is no argument left and there are no more filter options than slots.
abbrev pub Asks : Settings → List (List ℕ) → Asked → Type 0
Asks settings rest help = Leads (codes "-h") rest ⊎ Leads (codes "--help") rest
Asks settings rest version = Leads (codes "-V") rest ⊎ Leads (codes "--version") rest
Asks settings rest (dump run) = (rest ≡ []) × (run ≡ run_of settings) × (settings.crowded ≡ false)

-- The rest of the arguments, after items with these settings, has this error: the first argument begins with `-` and is
-- unknown, it is an option at the end, the value of the option is invalid, or it names a second input. If there is no
-- argument left, the error is that there are more filter options than slots.
abbrev pub IsFault : Settings → List (List ℕ) → Fault → Type 0
IsFault settings rest crowded_filter = (rest ≡ []) × (settings.crowded ≡ true)
IsFault settings rest (unknown_option word) =
    Leads word rest × (is_dashed word ≡ true) × (is_known word ≡ false)
    × ((option : Awaited) (value : List ℕ) → IsJoined option value word → ⊥)
IsFault settings rest (no_value word) =
    (option : Awaited) × (name : List ℕ) × IsOptionWord option name × (rest ≡ name ∷ []) × (word ≡ option_word option)
IsFault settings rest (bad_value option word) =
    (own others : List (List ℕ)) × AreSpelled option word own × (rest ≡ own ++ others)
    × ((item : Item) → IsValue option word item → ⊥)
IsFault settings rest (second_file word) = LeadsInput settings word rest
IsFault settings rest out_of_memory = ⊥

-- The arguments make this request.
abbrev pub IsRequest : List (List ℕ) → Asked → Type 0
IsRequest words asked =
    (items : List Item) × (rest : List (List ℕ)) × Begin default_settings words items rest
    × Asks (settings_of items) rest asked

-- The arguments have this error: that of the first wrong one, or too many filter options if no argument is wrong.
abbrev pub RefusesWords : List (List ℕ) → Fault → Type 0
RefusesWords words fault =
    (items : List Item) × (rest : List (List ℕ)) × Begin default_settings words items rest
    × IsFault (settings_of items) rest fault

-- the bytes of each argument
abbrev pub texts : {A : Type 0} → List (String A) → List (List ℕ)
texts words = map string_bytes words
