-- The answer of the parser to the arguments, read one at a time, is the request or the error of the command line.
use Rattle.std.proofs.Common.{◌≡◌, ℕ, ◌+◌, ◌<◌, ◌≤◌, Bool, true, false, if◌then◌else◌, ◌⊎◌, inl, inr, List, [], ◌∷◌}
use Rattle.std.proofs.Common.{◌++◌, length, drop, get_or, suc, Option, Some, None, Result, Ok, Err, refl, ap, ◌∙◌}
use Rattle.std.proofs.Common.{sym, subst, add-one, drop-cons}
use Rattle.std.specs.Prelude.{IfErr, IfOk, String, codes, fold, string_bytes}
use Rattle.std.proofs.lemmas.List.{drop_all}
use Rattle.packet_dump.specs.Options.{AreSpelled, Asked, Asks, Begin, Fault, IsFault, IsItem, IsOption, IsRequest, IsValue, Item}
use Rattle.packet_dump.specs.Options.{IsOptionWord, RefusesWords, Settings, answer_of, asked_of, bad_value, count, crowded_filter}
use Rattle.packet_dump.specs.Options.{default_settings, dump, explain, filter, has_input, is_taken, options_with, out_of_memory}
use Rattle.packet_dump.specs.Options.{argument, run_of}
use Rattle.packet_dump.specs.Options.{fault_of, file, help, hex, hex_frame, is_dashed, is_known, limit}
use Rattle.packet_dump.specs.Options.{no_names, no_value, only, option_word, quiet, reassemble, second_file, standard_input}
use Rattle.packet_dump.specs.Options.{streams, strict, summary, texts, time, timeout, unknown_option, verbose, version}
use Rattle.packet_dump.specs.Options.{with_item, write, fragment_age, fragment_bytes, overlap}
use Rattle.packet_dump.specs.OptionSteps.{State, Step, done, item_or_fault_step, joined_step, step_unless_taken, value_step}
use Rattle.packet_dump.specs.OptionSteps.{filtered, finished, word_step}
use Rattle.packet_dump.specs.OptionSteps.{first_state, joined_in, more, step}
use Rattle.packet_dump.specs.OptionSteps.{value_in, word_named}
use Rattle.packet_dump.specs.declared.options.Awaited.{Awaited}
use Rattle.packet_dump.specs.declared.options.Awaited.TheVariants.{Count, Only, Time, Timeout, Limit, Write, Streams, Filter, Input}
use Rattle.packet_dump.specs.declared.options.Awaited.TheVariants.{FragmentBytes, FragmentAge, Overlap, Explain}
use Rattle.packet_dump.specs.declared.options.Request.{Request}
use Rattle.packet_dump.specs.declared.options.UsageError.{UsageError}
use Rattle.packet_dump.specs.declared.options.Word.{Word}
use Rattle.packet_dump.specs.declared.dump_options.DumpOptions.{DumpOptions}
use Rattle.packet_dump.specs.declared.options.Word.TheVariants as word
use Rattle.packet_dump.proofs.JoinedLemmas.{joined_is, joined_none, joined_so, option_named}
use Rattle.packet_dump.proofs.ValueLemmas.{IsWord, is_word, plain_word, unknown_word, value_in-is, value_in-none}
use Rattle.packet_dump.proofs.ValueLemmas.{value_in-some}

-- ---- the answer of the parser

abbrev pub continue : (State → Result Asked Fault) → Step → Result Asked Fault
continue next (more state) = next state
continue next (done answer) = answer

abbrev pub outcome : List (List ℕ) → State → Result Asked Fault
outcome [] state = finished state
outcome (text ∷ words) state = continue (λ next. outcome words next) (step state text)

abbrev at : Settings → Option Awaited → State
at settings awaited = record { settings = settings; awaited = awaited }

-- The arguments lead to the state in which the value of this option, or no value, is expected.
abbrev Awaits : Option Awaited → List (List ℕ) → Type 0
Awaits None lead = lead ≡ []
Awaits (Some option) lead = (name : List ℕ) × IsOptionWord option name × (lead ≡ name ∷ [])

abbrev Ends : Settings → List (List ℕ) → Result Asked Fault → Type 0
Ends settings rest (Ok asked) = Asks settings rest asked
Ends settings rest (Err fault) = IsFault settings rest fault

-- The arguments have this answer after items with these settings.
record From (settings : Settings) (words : List (List ℕ)) (answer : Result Asked Fault) : Type 0 where
  items : List Item
  rest : List (List ℕ)
  begin : Begin settings words items rest
  ends : Ends (fold with_item settings items) rest answer

-- The arguments have the answer of the parser in every state.
abbrev Later : List (List ℕ) → Type 0
Later words = (settings : Settings) (awaited : Option Awaited) (lead : List (List ℕ)) → Awaits awaited lead
    → From settings (lead ++ words) (outcome words (at settings awaited))

-- ---- the answer of the parser is right

end_here : (settings : Settings) (rest : List (List ℕ)) (answer : Result Asked Fault) → Ends settings rest answer
    → From settings rest answer
end_here settings rest answer ends = record { items = []; rest = rest; begin = refl; ends = ends }

add_item : (settings : Settings) (own words : List (List ℕ)) (answer : Result Asked Fault) (item : Item)
    → IsItem own item → is_taken settings item ≡ false → From (with_item settings item) words answer
    → From settings (own ++ words) answer
add_item settings own words answer item is free from = record {
  items = item ∷ from.items;
  rest = from.rest;
  begin = (own, words, refl, is, free, from.begin);
  ends = from.ends;
}

value_item : (option : Awaited) (value : List ℕ) (item : Item) (own : List (List ℕ)) → AreSpelled option value own
    → IsValue option value item → IsItem own item
value_item Count value (count number) own spelled says = (Count, value, spelled, says)
value_item Only value (only sought) own spelled says = (Only, value, spelled, says)
value_item Time value (time form) own spelled says = (Time, value, spelled, says)
value_item Timeout value (timeout seconds) own spelled says = (Timeout, value, spelled, says)
value_item Limit value (limit bytes) own spelled says = (Limit, value, spelled, says)
value_item Write value (write name) own spelled says = (Write, value, spelled, says)
value_item Streams value (streams number) own spelled says = (Streams, value, spelled, says)
value_item FragmentBytes value (fragment_bytes number) own spelled says = (FragmentBytes, value, spelled, says)
value_item FragmentAge value (fragment_age number) own spelled says = (FragmentAge, value, spelled, says)
value_item Overlap value (overlap policy) own spelled says = (Overlap, value, spelled, says)
value_item (Filter kind) value (filter other stated) own spelled says = (Filter kind, value, spelled, says)
value_item Input value (file name) own spelled says = (Input, value, spelled, says)
value_item Explain value (explain stated) own spelled says = (Explain, value, spelled, says)
value_item option value item own spelled says = absurd says

-- A value that is taken is a second input: that of its option, and an option named the input before.
taken_value : (settings : Settings) (option : Awaited) (value : List ℕ) (item : Item) → IsValue option value item
    → is_taken settings item ≡ true → (option ≡ Input) × (settings.named ≡ true)
taken_value settings Input value (file name) says is = (refl, is)
taken_value settings Count value (count number) says is = let never : ⊥ = cc in absurd never
taken_value settings Only value (only sought) says is = let never : ⊥ = cc in absurd never
taken_value settings Time value (time form) says is = let never : ⊥ = cc in absurd never
taken_value settings Timeout value (timeout seconds) says is = let never : ⊥ = cc in absurd never
taken_value settings Limit value (limit bytes) says is = let never : ⊥ = cc in absurd never
taken_value settings Write value (write name) says is = let never : ⊥ = cc in absurd never
taken_value settings Streams value (streams number) says is = let never : ⊥ = cc in absurd never
taken_value settings FragmentBytes value (fragment_bytes number) says is = let never : ⊥ = cc in absurd never
taken_value settings FragmentAge value (fragment_age number) says is = let never : ⊥ = cc in absurd never
taken_value settings Overlap value (overlap policy) says is = let never : ⊥ = cc in absurd never
taken_value settings (Filter kind) value (filter other stated) says is = let never : ⊥ = cc in absurd never
taken_value settings Explain value (explain stated) says is = let never : ⊥ = cc in absurd never
taken_value settings option value item says is = absurd says

not_both : {A : Type 0} (o : Option A) (x : A) → o ≡ Some x → o ≡ None → ⊥
not_both o x some none = let clash : Some x ≡ None = sym some ∙ none in cc

sound_item : (words : List (List ℕ)) (settings : Settings) (awaited : Option Awaited) (option : Awaited)
    (value : List ℕ) (own : List (List ℕ)) → AreSpelled option value own → (item : Item) → IsValue option value item
    → (taken : Bool) → is_taken settings item ≡ taken
    → From (with_item settings item) words (outcome words (at (with_item settings item) None))
    → From settings (own ++ words)
    (continue (λ next. outcome words next) (item_or_fault_step (at settings awaited) value item taken))
sound_item words settings awaited option value own spelled item says false is later =
    add_item settings own words _ item (value_item option value item own spelled says) is later
sound_item words settings awaited option value own spelled item says true is later =
    let (input, named) = taken_value settings option value item says is in
    end_here settings (own ++ words) (Err (second_file value))
    (inr (own, words, subst (λ (o : Awaited). AreSpelled o value own) input spelled, refl, named))

sound_value : (words : List (List ℕ)) (settings : Settings) (awaited : Option Awaited) (option : Awaited)
    (value : List ℕ) (own : List (List ℕ)) → AreSpelled option value own → (stated : Option Item) → value_in option value ≡ stated
    → ((item : Item) → From (with_item settings item) words (outcome words (at (with_item settings item) None)))
    → From settings (own ++ words)
    (continue (λ next. outcome words next) (value_step (at settings awaited) option value stated))
sound_value words settings awaited option value own spelled (Some item) is later =
    sound_item words settings awaited option value own spelled item (value_in-is option value item is)
    (is_taken settings item) refl (later item)
sound_value words settings awaited option value own spelled None is later =
    end_here settings (own ++ words) (Err (bad_value option value))
    (own, words, spelled, refl, λ item says. not_both (value_in option value) item (value_in-some option value item says) is)

-- The answer is right for an argument that begins with `-` and is in no row of the table.
sound_joined : (words : List (List ℕ)) (settings : Settings) (text : List ℕ) (found : Option (Awaited × List ℕ))
    → joined_in text ≡ found → is_dashed text ≡ true → is_known text ≡ false → Later words
    → From settings (text ∷ words)
    (continue (λ next. outcome words next) (joined_step (at settings None) text found))
sound_joined words settings text (Some (option, value)) is dashed unknown later =
    sound_value words settings None option value (text ∷ []) (inr (text, joined_is text option value is, refl))
    (value_in option value) refl (λ item. later (with_item settings item) None [] refl)
sound_joined words settings text None is dashed unknown later =
    end_here settings (text ∷ words) (Err (unknown_option text)) (
      (words, refl),
      dashed,
      unknown,
      λ option value joined. not_both (joined_in text) (option, value) (joined_so option value text joined).1 is,
    )

-- The answer is right for `-`, given whether the input was named before.
sound_dash : (words : List (List ℕ)) (settings : Settings) (text : List ℕ) → text ≡ codes "-" → (taken : Bool)
    → has_input settings ≡ taken → Later words → From settings (text ∷ words)
    (continue (λ next. outcome words next) (item_or_fault_step (at settings None) text standard_input taken))
sound_dash words settings text is true taken later =
    end_here settings (text ∷ words) (Err (second_file text)) (inl ((words, refl), is, taken))
sound_dash words settings text is false free later =
    add_item settings (text ∷ []) words _ standard_input (ap (λ t. t ∷ []) is) free
    (later (with_item settings standard_input) None [] refl)

sound_word : (words : List (List ℕ)) (settings : Settings) (text : List ℕ) (w : Word) → IsWord text w
    → Later words → From settings (text ∷ words)
    (continue (λ next. outcome words next) (word_step (at settings None) text w))
sound_word words settings text word.Help is later =
    end_here settings (text ∷ words) (Ok help)
    (elim is [ inl e ↦ inl (words, ap (λ t. t ∷ words) e) | inr e ↦ inr (words, ap (λ t. t ∷ words) e) ])
sound_word words settings text word.Version is later =
    end_here settings (text ∷ words) (Ok version)
    (elim is [ inl e ↦ inl (words, ap (λ t. t ∷ words) e) | inr e ↦ inr (words, ap (λ t. t ∷ words) e) ])
sound_word words settings text word.Hex is later =
    add_item settings (text ∷ []) words _ hex (ap (λ t. t ∷ []) is) refl (later (with_item settings hex) None [] refl)
sound_word words settings text word.HexFrame is later =
    add_item settings (text ∷ []) words _ hex_frame (ap (λ t. t ∷ []) is) refl (later (with_item settings hex_frame) None [] refl)
sound_word words settings text word.Strict is later =
    add_item settings (text ∷ []) words _ strict (ap (λ t. t ∷ []) is) refl (later (with_item settings strict) None [] refl)
sound_word words settings text word.Verbose is later =
    add_item settings (text ∷ []) words _ verbose (ap (λ t. t ∷ []) is) refl (later (with_item settings verbose) None [] refl)
sound_word words settings text word.Summary is later =
    add_item settings (text ∷ []) words _ summary (ap (λ t. t ∷ []) is) refl (later (with_item settings summary) None [] refl)
sound_word words settings text word.Quiet is later =
    add_item settings (text ∷ []) words _ quiet (ap (λ t. t ∷ []) is) refl (later (with_item settings quiet) None [] refl)
sound_word words settings text word.Reassemble is later =
    add_item settings (text ∷ []) words _ reassemble (ap (λ t. t ∷ []) is) refl (later (with_item settings reassemble) None [] refl)
sound_word words settings text word.NoNames is later =
    add_item settings (text ∷ []) words _ no_names
    (elim is [ inl e ↦ inl (ap (λ t. t ∷ []) e) | inr e ↦ inr (ap (λ t. t ∷ []) e) ]) refl
    (later (with_item settings no_names) None [] refl)
sound_word words settings text (word.Option option) is later =
    later settings (Some option) (text ∷ []) (text, is, refl)
sound_word words settings text word.StandardInput is later =
    sound_dash words settings text is (has_input settings) refl later
sound_word words settings text word.Plain is later =
    add_item settings (text ∷ []) words _ (argument text) (refl, is) refl
    (later (with_item settings (argument text)) None [] refl)
sound_word words settings text word.Unknown is later =
    sound_joined words settings text (joined_in text) refl is.0 is.1 later

sound_end : (settings : Settings) (crowded : Bool) → settings.crowded ≡ crowded
    → From settings [] (if crowded then Err crowded_filter else Ok (dump (run_of settings)))
sound_end settings true is = end_here settings [] (Err crowded_filter) (refl, is)
sound_end settings false is = end_here settings [] (Ok (dump (run_of settings))) (refl, refl, is)

sound : (words : List (List ℕ)) → Later words
sound [] settings None lead is =
    subst (λ (l : List (List ℕ)). From settings (l ++ []) (outcome [] (at settings None))) (sym is)
    (sound_end settings settings.crowded refl)
sound [] settings (Some option) lead is =
    subst (λ (l : List (List ℕ)). From settings (l ++ []) (Err (no_value (option_word option)))) (sym is.2)
    (end_here settings (is.0 ∷ []) (Err (no_value (option_word option))) (option, is.0, is.1, refl, refl))
sound (text ∷ words) settings None lead is =
    subst (λ (l : List (List ℕ)). From settings (l ++ (text ∷ words)) (outcome (text ∷ words) (at settings None)))
    (sym is)
    (sound_word words settings text (word_named text) (is_word text) (λ s a l w. sound words s a l w))
sound (text ∷ words) settings (Some option) lead is =
    subst
    (λ (l : List (List ℕ)). From settings (l ++ (text ∷ words)) (outcome (text ∷ words) (at settings (Some option))))
    (sym is.2)
    (sound_value words settings (Some option) option text (is.0 ∷ text ∷ []) (inl (is.0, is.1, refl))
    (value_in option text) refl (λ item. sound words (with_item settings item) None [] refl))

-- ---- the right answer is that of the parser

one_step : (words : List (List ℕ)) (settings : Settings) (text : List ℕ) (w : Word) → word_named text ≡ w
    → outcome (text ∷ words) (at settings None)
    ≡ continue (λ next. outcome words next) (word_step (at settings None) text w)
one_step words settings text w is =
    ap (λ v. continue (λ next. outcome words next) (word_step (at settings None) text v)) is

same_item : (settings : Settings) (awaited : Option Awaited) (value : List ℕ) (item : Item) (taken : Bool)
    → item_or_fault_step (at settings awaited) value item taken
    ≡ item_or_fault_step (at settings None) value item taken
same_item settings awaited value item true = refl
same_item settings awaited value item false = refl

same_value : (settings : Settings) (awaited : Option Awaited) (option : Awaited) (value : List ℕ) (stated : Option Item)
    → value_step (at settings awaited) option value stated ≡ value_step (at settings None) option value stated
same_value settings awaited option value None = refl
same_value settings awaited option value (Some item) = same_item settings awaited value item (is_taken settings item)

-- The step of an option and its value.
spelled_value_step : (option : Awaited) (value : List ℕ) (own words : List (List ℕ)) (settings : Settings)
    → AreSpelled option value own → (stated : Option Item) → value_in option value ≡ stated
    → outcome (own ++ words) (at settings None)
    ≡ continue (λ next. outcome words next) (value_step (at settings None) option value stated)
spelled_value_step option value own words settings (inl (name, fits, spelled)) stated is =
    ap (λ o. outcome (o ++ words) (at settings None)) spelled
    ∙ one_step (value ∷ words) settings name (word.Option option) (option_named option name fits)
    ∙ ap (λ o. continue (λ next. outcome words next) (value_step (at settings (Some option)) option value o)) is
    ∙ ap (λ s. continue (λ next. outcome words next) s) (same_value settings (Some option) option value stated)
spelled_value_step option value own words settings (inr (text, joined, spelled)) stated is =
    let so = joined_so option value text joined in
    ap (λ o. outcome (o ++ words) (at settings None)) spelled
    ∙ one_step words settings text word.Unknown so.0
    ∙ ap (λ f. continue (λ next. outcome words next) (joined_step (at settings None) text f)) so.1
    ∙ ap (λ o. continue (λ next. outcome words next) (value_step (at settings None) option value o)) is

-- The step of an item that names no second input.
free_item : (words : List (List ℕ)) (settings : Settings) (value : List ℕ) (item : Item)
    → is_taken settings item ≡ false
    → continue (λ next. outcome words next) (step_unless_taken (at settings None) value item)
    ≡ outcome words (at (with_item settings item) None)
free_item words settings value item free =
    ap (λ (taken : Bool). continue (λ next. outcome words next) (item_or_fault_step (at settings None) value item taken))
    free

option_step : (item : Item) (own words : List (List ℕ)) (settings : Settings) → IsOption own item
    → is_taken settings item ≡ false
    → outcome (own ++ words) (at settings None) ≡ outcome words (at (with_item settings item) None)
option_step item own words settings is free =
    spelled_value_step is.0 is.1 own words settings is.2 (Some item) (value_in-some is.0 is.1 item is.3)
    ∙ free_item words settings is.1 item free

item_step : (item : Item) (own words : List (List ℕ)) (settings : Settings) → IsItem own item
    → is_taken settings item ≡ false
    → outcome (own ++ words) (at settings None) ≡ outcome words (at (with_item settings item) None)
item_step hex own words settings is free = ap (λ o. outcome (o ++ words) (at settings None)) is
item_step hex_frame own words settings is free = ap (λ o. outcome (o ++ words) (at settings None)) is
item_step strict own words settings is free = ap (λ o. outcome (o ++ words) (at settings None)) is
item_step verbose own words settings is free = ap (λ o. outcome (o ++ words) (at settings None)) is
item_step summary own words settings is free = ap (λ o. outcome (o ++ words) (at settings None)) is
item_step quiet own words settings is free = ap (λ o. outcome (o ++ words) (at settings None)) is
item_step reassemble own words settings is free = ap (λ o. outcome (o ++ words) (at settings None)) is
item_step no_names own words settings (inl is) free = ap (λ o. outcome (o ++ words) (at settings None)) is
item_step no_names own words settings (inr is) free = ap (λ o. outcome (o ++ words) (at settings None)) is
item_step (count number) own words settings is free = option_step (count number) own words settings is free
item_step (only sought) own words settings is free = option_step (only sought) own words settings is free
item_step (time form) own words settings is free = option_step (time form) own words settings is free
item_step (timeout seconds) own words settings is free = option_step (timeout seconds) own words settings is free
item_step (limit bytes) own words settings is free = option_step (limit bytes) own words settings is free
item_step (streams number) own words settings is free = option_step (streams number) own words settings is free
item_step (fragment_bytes number) own words settings is free = option_step (fragment_bytes number) own words settings is free
item_step (fragment_age number) own words settings is free = option_step (fragment_age number) own words settings is free
item_step (overlap policy) own words settings is free = option_step (overlap policy) own words settings is free
item_step (write name) own words settings is free = option_step (write name) own words settings is free
item_step (filter kind text) own words settings is free = option_step (filter kind text) own words settings is free
item_step (file name) own words settings is free = option_step (file name) own words settings is free
item_step (explain text) own words settings is free = option_step (explain text) own words settings is free
item_step standard_input own words settings is free =
    ap (λ o. outcome (o ++ words) (at settings None)) is ∙ free_item words settings (codes "-") standard_input free
item_step (argument text) own words settings is free =
    ap (λ o. outcome (o ++ words) (at settings None)) is.0
    ∙ one_step words settings text word.Plain (plain_word text is.1)

-- A second input is an error.
second_item : (words : List (List ℕ)) (settings : Settings) (text : List ℕ) (item : Item)
    → is_taken settings item ≡ true
    → continue (λ next. outcome words next) (step_unless_taken (at settings None) text item) ≡ Err (second_file text)
second_item words settings text item taken =
    ap (λ (t : Bool). continue (λ next. outcome words next) (item_or_fault_step (at settings None) text item t)) taken

complete_end : (rest : List (List ℕ)) (settings : Settings) (answer : Result Asked Fault)
    → Ends settings rest answer → outcome rest (at settings None) ≡ answer
complete_end rest settings (Ok help) (inl e) = ap (λ w. outcome w (at settings None)) e.1
complete_end rest settings (Ok help) (inr e) = ap (λ w. outcome w (at settings None)) e.1
complete_end rest settings (Ok version) (inl e) = ap (λ w. outcome w (at settings None)) e.1
complete_end rest settings (Ok version) (inr e) = ap (λ w. outcome w (at settings None)) e.1
complete_end rest settings (Ok (dump asked)) ends =
    ap (λ w. outcome w (at settings None)) ends.0
    ∙ ap (λ (b : Bool). if b then Err crowded_filter else Ok (dump (run_of settings))) ends.2
    ∙ ap (λ s. Ok (dump s)) (sym ends.1)
complete_end rest settings (Err crowded_filter) ends =
    ap (λ w. outcome w (at settings None)) ends.0
    ∙ ap (λ (b : Bool). if b then Err crowded_filter else Ok (dump (run_of settings))) ends.1
complete_end rest settings (Err (unknown_option text)) ends =
    ap (λ w. outcome w (at settings None)) ends.0.1
    ∙ one_step ends.0.0 settings text word.Unknown (unknown_word text ends.1 ends.2)
    ∙ ap (λ f. continue (λ next. outcome ends.0.0 next) (joined_step (at settings None) text f))
    (joined_none text ends.3)
complete_end rest settings (Err (no_value text)) ends =
    ap (λ w. outcome w (at settings None)) ends.3
    ∙ one_step [] settings ends.1 (word.Option ends.0) (option_named ends.0 ends.1 ends.2)
    ∙ ap (λ t. Err (no_value t)) (sym ends.4)
complete_end rest settings (Err (bad_value option text)) ends =
    ap (λ w. outcome w (at settings None)) ends.3
    ∙ spelled_value_step option text ends.0 ends.1 settings ends.2 None (value_in-none option text ends.4)
complete_end rest settings (Err (second_file text)) (inl (leads, dash, taken)) =
    ap (λ w. outcome w (at settings None)) leads.1
    ∙ one_step leads.0 settings text word.StandardInput (ap word_named dash)
    ∙ second_item leads.0 settings text standard_input taken
complete_end rest settings (Err (second_file text)) (inr (own, others, spelled, is, taken)) =
    ap (λ w. outcome w (at settings None)) is
    ∙ spelled_value_step Input text own others settings spelled (Some (file text)) refl
    ∙ second_item others settings text (file text) taken
complete_end rest settings (Err out_of_memory) ends = absurd ends

complete : (items : List Item) (words rest : List (List ℕ)) (settings : Settings) (answer : Result Asked Fault)
    → Begin settings words items rest → Ends (fold with_item settings items) rest answer
    → outcome words (at settings None) ≡ answer
complete [] words rest settings answer begin ends =
    ap (λ w. outcome w (at settings None)) begin ∙ complete_end rest settings answer ends
complete (item ∷ items) words rest settings answer (own, others, is, named, free, begin) ends =
    ap (λ w. outcome w (at settings None)) is
    ∙ item_step item own others settings named free
    ∙ complete items others rest (with_item settings item) answer begin ends

-- ---- clauses of the contract

-- The answer is that of all arguments, or the allocation failed.
abbrev pub Answers : List (List ℕ) → Result Asked Fault → Type 0
Answers words answer = (answer ≡ Err out_of_memory) ⊎ (outcome words first_state ≡ answer)

from_answer : (words : List (List ℕ)) (answer : Result Asked Fault) → outcome words first_state ≡ answer
    → From default_settings words answer
from_answer words answer is =
    subst (λ (a : Result Asked Fault). From default_settings words a) is (sound words default_settings None [] refl)

pub ok_from : (words : List (List ℕ)) (result : Result Request UsageError) → Answers words (answer_of result)
    → IfOk result (λ request. IsRequest words (asked_of request))
ok_from words (Ok request) (inl failed) = let never : ⊥ = cc in absurd never
ok_from words (Ok request) (inr is) =
    let from = from_answer words (Ok (asked_of request)) is in (from.items, from.rest, from.begin, from.ends)
ok_from words (Err error) is = tt

pub err_from : (words : List (List ℕ)) (result : Result Request UsageError) → Answers words (answer_of result)
    → IfErr result (λ error. (fault_of error ≡ out_of_memory) ⊎ RefusesWords words (fault_of error))
err_from words (Ok request) is = tt
err_from words (Err error) (inl failed) = inl cc
err_from words (Err error) (inr is) =
    let from = from_answer words (Err (fault_of error)) is in inr (from.items, from.rest, from.begin, from.ends)

pub asked_from : (words : List (List ℕ)) (answer : Result Asked Fault) → Answers words answer
    → (asked : Asked) → IsRequest words asked → (answer ≡ Err out_of_memory) ⊎ (answer ≡ Ok asked)
asked_from words answer (inl failed) asked asks = inl failed
asked_from words answer (inr is) asked (items, rest, begin, asks) =
    inr (sym is ∙ complete items words rest default_settings (Ok asked) begin asks)

pub refused_from : (words : List (List ℕ)) (answer : Result Asked Fault) → Answers words answer
    → (fault : Fault) → RefusesWords words fault → (answer ≡ Err out_of_memory) ⊎ (answer ≡ Err fault)
refused_from words answer (inl failed) fault refuses = inl failed
refused_from words answer (inr is) fault (items, rest, begin, refuses) =
    inr (sym is ∙ complete items words rest default_settings (Err fault) begin refuses)

-- ---- the value of an option

-- The options that are set, and the text that is kept, are the settings after the item.
pub set_item : (option : Awaited) (text : List ℕ) (item : Item) (state : State) (options : DumpOptions)
    → IsValue option text item → options ≡ options_with state.settings.options item → (option ≡ Input → ⊥)
    → filtered (record state { settings = record state.settings { options = options } }) option text
    ≡ record state { settings = with_item state.settings item }
set_item Count text (count number) state options says is plain =
    ap (λ o. record state { settings = record state.settings { options = o } }) is
set_item Only text (only sought) state options says is plain =
    ap (λ o. record state { settings = record state.settings { options = o } }) is
set_item Time text (time form) state options says is plain =
    ap (λ o. record state { settings = record state.settings { options = o } }) is
set_item Timeout text (timeout seconds) state options says is plain =
    ap (λ o. record state { settings = record state.settings { options = o } }) is
set_item Limit text (limit bytes) state options says is plain =
    ap (λ o. record state { settings = record state.settings { options = o } }) is
set_item Streams text (streams number) state options says is plain =
    ap (λ o. record state { settings = record state.settings { options = o } }) is
set_item FragmentBytes text (fragment_bytes number) state options says is plain =
    ap (λ o. record state { settings = record state.settings { options = o } }) is
set_item FragmentAge text (fragment_age number) state options says is plain =
    ap (λ o. record state { settings = record state.settings { options = o } }) is
set_item Overlap text (overlap policy) state options says is plain =
    ap (λ o. record state { settings = record state.settings { options = o } }) is
set_item Write text (write name) state options says is plain =
    ap (λ o. filtered (record state { settings = record state.settings { options = o } }) Write text) is
    ∙ ap (λ t. record state { settings = with_item state.settings (write t) }) says
set_item (Filter kind) text (filter other stated) state options says is plain =
    ap (λ o. filtered (record state { settings = record state.settings { options = o } }) (Filter kind) text) is
    ∙ ap (λ k. record state { settings = with_item state.settings (filter k text) }) says.0
    ∙ ap (λ t. record state { settings = with_item state.settings (filter other t) }) says.1
set_item Explain text (explain stated) state options says is plain =
    ap (λ o. filtered (record state { settings = record state.settings { options = o } }) Explain text) is
    ∙ ap (λ t. record state { settings = with_item state.settings (explain t) }) says
set_item Input text (file name) state options says is plain = absurd (plain refl)
set_item option text item state options says is plain = absurd says

-- The value of another option names no input.
pub no_input : (settings : Settings) (option : Awaited) (value : List ℕ) (item : Item) → IsValue option value item
    → (option ≡ Input → ⊥) → is_taken settings item ≡ false
no_input settings Input value item says never = absurd (never refl)
no_input settings Count value (count number) says never = refl
no_input settings Only value (only sought) says never = refl
no_input settings Time value (time form) says never = refl
no_input settings Timeout value (timeout seconds) says never = refl
no_input settings Limit value (limit bytes) says never = refl
no_input settings Write value (write name) says never = refl
no_input settings Streams value (streams number) says never = refl
no_input settings FragmentBytes value (fragment_bytes number) says never = refl
no_input settings FragmentAge value (fragment_age number) says never = refl
no_input settings Overlap value (overlap policy) says never = refl
no_input settings (Filter kind) value (filter other stated) says never = refl
no_input settings Explain value (explain stated) says never = refl
no_input settings option value item says never = absurd says

-- ---- one argument of several

word_first : {A : Type 0} (words : List (String A)) (i : ℕ) (text : String A) → i < length words
    → text ≡ get_or words i text → texts (drop i words) ≡ string_bytes text ∷ texts (drop (i + 1) words)
word_first words i text within is =
    ap texts (drop-cons words i text within)
    ∙ rw add-one (ap (λ t. string_bytes t ∷ texts (drop (suc i) words)) (sym is))

-- The answer does not depend on the arguments after it.
pub stops : {A : Type 0} (words : List (String A)) (i : ℕ) (text : String A) (stated : List ℕ) (state : State)
    (answer : Result Asked Fault) → i < length words → text ≡ get_or words i text → stated ≡ string_bytes text
    → step state stated ≡ done answer → outcome (texts (drop i words)) state ≡ outcome (texts words) first_state
    → outcome (texts words) first_state ≡ answer
stops words i text stated state answer within is reads steps before =
    sym before ∙ ap (λ w. outcome w state) (word_first words i text within is)
    ∙ ap (λ t. continue (λ n. outcome (texts (drop (i + 1) words)) n) (step state t)) (sym reads)
    ∙ ap (λ s. continue (λ n. outcome (texts (drop (i + 1) words)) n) s) steps

-- The remaining arguments have the answer of all arguments.
pub goes_on : {A : Type 0} (words : List (String A)) (i : ℕ) (text : String A) (stated : List ℕ) (state next : State)
    → i < length words → text ≡ get_or words i text → stated ≡ string_bytes text → step state stated ≡ more next
    → outcome (texts (drop i words)) state ≡ outcome (texts words) first_state
    → outcome (texts (drop (i + 1) words)) next ≡ outcome (texts words) first_state
goes_on words i text stated state next within is reads steps before =
    sym (ap (λ w. outcome w state) (word_first words i text within is)
    ∙ ap (λ t. continue (λ n. outcome (texts (drop (i + 1) words)) n) (step state t)) (sym reads)
    ∙ ap (λ s. continue (λ n. outcome (texts (drop (i + 1) words)) n) s) steps)
    ∙ before

-- After the last argument, the answer is that of the final state.
pub runs_out : {A : Type 0} (words : List (String A)) (i : ℕ) (state : State) → length words ≤ i
    → outcome (texts (drop i words)) state ≡ outcome (texts words) first_state
    → outcome (texts words) first_state ≡ finished state
runs_out words i state past before = sym before ∙ ap (λ w. outcome (texts w) state) (drop_all i words past)
