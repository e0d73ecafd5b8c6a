-- Linked headers are visited by a walk, all of them, and written headers are a chain.
use Rattle.std.proofs.Common.{◌≡◌, ℕ, ◌==◌, ◌&&◌, Bool, true, false, not, if◌then◌else◌, List, [], ◌∷◌, ◌++◌, Option, Some, None, refl, sym, ap, subst, ◌∙◌, arith, append_assoc}
use Rattle.std.specs.Option.{option_map, is_some}
use Rattle.std.specs.Prelude.{Ok}
use Rattle.std.proofs.lemmas.Bool.{true≢false}
use Rattle.std.proofs.lemmas.List.{append-nil}
use Rattle.std.proofs.lemmas.Option.{none-some}
use Rattle.std.proofs.lemmas.Grind.{common_steps}
use Rattle.ep_base.specs.Readings.{headers}
use Rattle.ep_base.specs.declared.ip_number.IpNumber.{IpNumber}
use Rattle.ep_ext.specs.declared.ip_auth_header.IpAuthHeader.{IpAuthHeader}
use Rattle.ep_ext.specs.declared.ipv6_fragment_header.Ipv6FragmentHeader.{Ipv6FragmentHeader}
use Rattle.ep_ext.specs.declared.ipv6_raw_ext_header.Ipv6RawExtHeader.{Ipv6RawExtHeader}
use Rattle.ep_ext.specs.declared.ipv4_exts.Ipv4Extensions.{Ipv4Extensions}
use Rattle.ep_ext.specs.declared.ipv6_exts.Ipv6Extensions.{Ipv6Extensions}
use Rattle.ep_ext.specs.declared.ipv6_routing_exts.Ipv6RoutingExtensions.{Ipv6RoutingExtensions}
use Rattle.ep_ext.specs.declared.ipv6_exts_walk.VisitedHeaders.{VisitedHeaders}
use Rattle.ep_ext.specs.IpAuth.{ip_auth_bytes}
use Rattle.ep_ext.specs.FragmentHeader.{fragment_header_bytes}
use Rattle.ep_ext.specs.ExtensionParts.{ExtensionPart, hop_by_hop, destination_options, routing, fragment, authentication, part_number, part_next, part_bytes, optional_part, FitsPart, IsExtensionPart}
use Rattle.ep_ext.specs.Chains.{ipv4, ipv6, is_first, is_ipv6_extension, parts_bytes, chain_of, FitParts, IsChainAfter, IsExtensionChain}
use Rattle.ep_ext.specs.Ipv4Chains.{ip_auth_leading_to, ipv4_first, ipv4_linked, ipv4_parts, ipv4_walk}
use Rattle.ep_ext.specs.Ipv6Chains.{no_ipv6_extensions, extensions_of, with_part, with_parts, with_destination, final_by, routing_header, header_for, IsWalkAfter, missing_number, WalksAll, number_before, raw_leading_to, fragment_leading_to, routing_leading_to, after_routing, ipv6_first, ipv6_linked, ipv6_parts}
use Rattle.ep_ext.specs.Walks.{marked, header_at, missing_at}
use Rattle.ep_ext.proofs.ChainLemmas.{ends_at_once, one_authentication}
use Rattle.ep_ext.proofs.ValueLemmas.{HasTaken, value_of, headers_take, headers_end, first_none_taken}
use Rattle.ep_ext.proofs.WalkLemmas.{IsMarked, marked_none, mark_more, found_is, found_kind, left_is}
use Rattle.ep_ext.proofs.WalkMarkLemmas.{no_marks}

-- ---- no header is left after all are visited

pub no_row : (test : Bool) (number : ℕ) (rest : Option ℕ) → (if test then Some number else rest) ≡ None
    → (test ≡ false) × (rest ≡ None)
no_row true number rest none = absurd (none-some number (sym none))
no_row false number rest none = (refl, none)

both_none : (test : Bool) (choice other : Option ExtensionPart) → choice ≡ None → other ≡ None
    → (if test then choice else other) ≡ None
both_none true choice other a b = a
both_none false choice other a b = b

spent : {H : Type 0} (kind : H → ExtensionPart) (present : Option H) (mark : Bool)
    → (is_some present && not mark) ≡ false → (if mark then None else option_map kind present) ≡ None
spent kind present true none = refl
spent kind None false none = refl
spent kind (Some header) false none = absurd (true≢false none)

routing_spent : (present : Option Ipv6RoutingExtensions) (mark : Bool) → (is_some present && not mark) ≡ false
    → (if mark then None else option_map routing (option_map routing_header present)) ≡ None
routing_spent present true none = refl
routing_spent None false none = refl
routing_spent (Some after) false none = absurd (true≢false none)

hop_spent : (present : Option Ipv6RawExtHeader) (any mark : Bool) → (any ≡ false → mark ≡ false)
    → (is_some present && not mark) ≡ false → (if any then None else option_map hop_by_hop present) ≡ None
hop_spent present true mark first none = refl
hop_spent None false mark first none = refl
hop_spent (Some header) false true first none = absurd (true≢false (first refl))
hop_spent (Some header) false false first none = absurd (true≢false none)

pub all_taken : (extensions : Ipv6Extensions) (taken : List ℕ) (walked : Ipv6Extensions) (marks : VisitedHeaders)
    (number : ℕ) → IsMarked taken walked marks → missing_at extensions marks ≡ None
    → header_at extensions marks number ≡ None
all_taken extensions taken walked marks number m none =
    let a = no_row _ _ _ none in
    let b = no_row _ _ _ a.1 in
    let c = no_row _ _ _ b.1 in
    let d = no_row _ _ _ c.1 in
    let e = no_row _ _ _ d.1 in
    let f = no_row _ _ _ e.1 in
    let first : marks.any ≡ false → marks.hop_by_hop ≡ false = λ none_yet. sym m.hop_by_hop ∙ sym (m.has 0)
    ∙ first_none_taken taken 0 (m.any ∙ ap not none_yet) in
    both_none (number == 0) _ _ (hop_spent extensions.hop_by_hop_options marks.any marks.hop_by_hop first a.0)
    (both_none (number == 43) _ _ (routing_spent extensions.routing marks.routing c.0)
    (both_none (number == 44) _ _ (spent fragment extensions.fragment marks.fragment d.0)
    (both_none (number == 51) _ _ (spent authentication extensions.auth marks.auth e.0)
    (both_none (number == 60) _ None (both_none marks.routing _ _
    (spent destination_options (final_by extensions.routing) marks.final_destination_options f.0)
    (spent destination_options extensions.destination_options marks.destination_options b.0)) refl))))

and_not : (test : Bool) → (test && not test) ≡ false
and_not true = refl
and_not false = refl

-- No header of a value is missing from the value itself.
nothing_left : (extensions : Ipv6Extensions) → missing_number extensions extensions ≡ None
nothing_left extensions = λ i.
    if and_not (is_some extensions.hop_by_hop_options) i then Some 0
    else if and_not (is_some extensions.destination_options) i then Some 60
    else if and_not (is_some extensions.routing) i then Some 43
    else if and_not (is_some extensions.fragment) i then Some 44
    else if and_not (is_some extensions.auth) i then Some 51
    else if and_not (is_some (final_by extensions.routing)) i then Some 60
    else None

-- ---- slots: headers linked to the next ones

-- A slot of the order of linking: the IP number of its kind, its kind, how a next header field is set, the value of the
-- headers up to it, and the header, if present.
data Slot : Type 1 where
  slot : {H : Type 0} → ℕ → (H → ExtensionPart) → (IpNumber → H → H) → (Option H → Ipv6Extensions) → Option H → Slot

-- The first IP number of the slots, if the payload has the number `last`.
abbrev slots_first : List Slot → IpNumber → IpNumber
slots_first [] last = last
slots_first (slot number kind leading_to value present ∷ slots) last = number_before present number (slots_first slots last)

-- The headers of the slots, each linked to the next one.
abbrev slots_parts : List Slot → IpNumber → List ExtensionPart
slots_parts [] last = []
slots_parts (slot number kind leading_to value present ∷ slots) last =
    optional_part kind (option_map (leading_to (slots_first slots last)) present) ++ slots_parts slots last

-- The visited headers after a slot.
abbrev taken_with : {H : Type 0} → Option H → ℕ → List ℕ → List ℕ
taken_with None number taken = taken
taken_with (Some header) number taken = number ∷ taken

-- Each header is visited, refers to the next one, and is added to the value of the headers before it; the last value
-- has all headers.
abbrev Lead : Ipv6Extensions → List ℕ → Ipv6Extensions → List Slot → IpNumber → Type 0
Lead extensions taken walked [] last = walked ≡ extensions
Lead extensions taken walked (slot {H} number kind leading_to value present ∷ slots) last =
    let next = slots_first slots last in
    (walked ≡ value None)
    × ((header : H) → present ≡ Some header → HasTaken taken walked
    → (header_for extensions taken number ≡ option_map kind (option_map (leading_to next) present))
    × (part_next (kind (leading_to next header)) ≡ next.0)
    × (with_part walked (kind (leading_to next header)) ≡ value (Some (leading_to next header))))
    × Lead extensions (taken_with present number taken) (value (option_map (leading_to next) present)) slots last

-- A walk visits the headers of the slots and collects the complete value.
abbrev Walks : Ipv6Extensions → List ℕ → Ipv6Extensions → List Slot → IpNumber → Type 0
Walks extensions taken walked slots last =
    IsWalkAfter extensions taken (slots_first slots last).0 (slots_parts slots last) last.0
    × (with_parts walked (slots_parts slots last) ≡ extensions)

slots_walk : (extensions : Ipv6Extensions) (taken : List ℕ) (walked : Ipv6Extensions) (marks : VisitedHeaders)
    (slots : List Slot) (last : IpNumber) → IsMarked taken walked marks → Lead extensions taken walked slots last
    → Walks extensions taken walked slots last
slots_walk extensions taken walked marks [] last m complete = (
  (
    found_is extensions taken walked marks last.0 m
        ∙ all_taken extensions taken walked marks last.0 m (sym (left_is extensions taken walked marks m)
        ∙ ap (missing_number extensions) complete ∙ nothing_left extensions),
    refl,
  ),
  complete,
)
slots_walk extensions taken walked marks (slot number kind leading_to value None ∷ slots) last m leads =
    slots_walk extensions taken walked marks slots last m
    (subst (λ (w : Ipv6Extensions). Lead extensions taken w slots last) (sym leads.0) leads.2)
slots_walk extensions taken walked marks (slot number kind leading_to value (Some header) ∷ slots) last m leads =
    let part = kind (leading_to (slots_first slots last) header) in
    let here = leads.1 header refl m.has in
    let more = subst (λ (n : ℕ). IsMarked (n ∷ taken) (with_part walked part) (marked marks part))
    (sym (found_kind extensions taken number part here.0).0) (mark_more taken walked marks part m) in
    let after = slots_walk extensions (number ∷ taken) (with_part walked part) (marked marks part) slots last more
    (subst (λ (w : Ipv6Extensions). Lead extensions (number ∷ taken) w slots last) (sym here.2) leads.2) in (
      (
        here.0,
        subst (λ (n : ℕ). IsWalkAfter extensions (number ∷ taken) n (slots_parts slots last) last.0) (sym here.1)
            after.0,
      ),
      after.1,
    )

-- ---- the headers of a value as slots

-- A routing header with these destination options after it.
abbrev with_final : Option Ipv6RawExtHeader → Ipv6RoutingExtensions → Ipv6RoutingExtensions
with_final final after = record after { final_destination_options = final }

-- The slots of a linked value.
abbrev slots_of : Ipv6Extensions → IpNumber → List Slot
slots_of extensions last =
    let linked = ipv6_linked extensions last in
    let hop = linked.hop_by_hop_options in
    let destination = linked.destination_options in
    let alone = option_map (with_final None) in
    slot 0 hop_by_hop raw_leading_to (λ (present : Option Ipv6RawExtHeader). value_of present None None None None)
    extensions.hop_by_hop_options
    ∷ slot 60 destination_options raw_leading_to
    (λ (present : Option Ipv6RawExtHeader). value_of hop present None None None) extensions.destination_options
    ∷ slot 43 (λ (after : Ipv6RoutingExtensions). routing after.routing)
    (λ (next : IpNumber). routing_leading_to next last)
    (λ (present : Option Ipv6RoutingExtensions). value_of hop destination (alone present) None None)
    extensions.routing
    ∷ slot 44 fragment fragment_leading_to
    (λ (present : Option Ipv6FragmentHeader). value_of hop destination (alone linked.routing) present None)
    extensions.fragment
    ∷ slot 51 authentication ip_auth_leading_to
    (λ (present : Option IpAuthHeader). value_of hop destination (alone linked.routing) linked.fragment present)
    extensions.auth
    ∷ slot 60 destination_options raw_leading_to
    (λ (present : Option Ipv6RawExtHeader).
    value_of hop destination (option_map (with_final present) linked.routing) linked.fragment linked.auth)
    (final_by extensions.routing)
    ∷ []

if_false : (test : Bool) (choice other : Option ExtensionPart) → test ≡ false → (if test then choice else other) ≡ other
if_false true choice other is = absurd (true≢false is)
if_false false choice other is = refl

if_true : (test : Bool) (choice other : Option ExtensionPart) → test ≡ true → (if test then choice else other) ≡ choice
if_true true choice other is = refl
if_true false choice other is = absurd (true≢false (sym is))

routing_found : (after : Option Ipv6RoutingExtensions)
    → option_map routing (option_map routing_header after)
    ≡ option_map (λ (present : Ipv6RoutingExtensions). routing present.routing) after
routing_found None = refl
routing_found (Some after) = refl

-- The slot of the destination options after a routing header.
final_leads : (hop destination : Option Ipv6RawExtHeader) (after : Option Ipv6RoutingExtensions)
    (fragmenting : Option Ipv6FragmentHeader) (auth : Option IpAuthHeader) (next last : IpNumber) (taken : List ℕ)
    (header : Ipv6RawExtHeader)
    → let present = option_map (routing_leading_to next last) after in
    let walked = value_of hop destination (option_map (with_final None) present) fragmenting auth in
    let led = raw_leading_to last header in
    final_by after ≡ Some header → HasTaken taken walked
    → (header_for (value_of hop destination present fragmenting auth) taken 60
    ≡ option_map destination_options (option_map (raw_leading_to last) (final_by after)))
    × (last.0 ≡ last.0)
    × (with_destination walked led walked.routing
    ≡ value_of hop destination (option_map (with_final (Some led)) present) fragmenting auth)
final_leads hop destination None fragmenting auth next last taken header present has = absurd (none-some header present)
final_leads hop destination (Some after) fragmenting auth next last taken header present has = (
  if_false _ _ _ (has 60) ∙ if_true _ _ _ (has 43),
  refl,
  refl,
)

final_complete : (after : Option Ipv6RoutingExtensions) (next last : IpNumber)
    → let present = option_map (routing_leading_to next last) after in
    option_map (with_final (option_map (raw_leading_to last) (final_by after))) present ≡ present
final_complete None next last = refl
final_complete (Some after) next last = refl

leads : (extensions : Ipv6Extensions) (last : IpNumber)
    → Lead (ipv6_linked extensions last) [] no_ipv6_extensions (slots_of extensions last) last
leads extensions last =
    let all = ipv6_linked extensions last in
    let next = after_routing extensions last in
    let complete = ap (λ (after : Option Ipv6RoutingExtensions). value_of all.hop_by_hop_options all.destination_options
    after all.fragment all.auth) (final_complete extensions.routing next last) in (
      refl,
      λ header present has. (refl, refl, refl),
      (
        refl,
        λ header present has. (if_false _ _ _ (has 60) ∙ if_false _ _ _ (has 43), refl, refl),
        (
          refl,
          λ header present has. (if_false _ _ _ (has 43) ∙ routing_found all.routing, refl, refl),
          (
            refl,
            λ header present has. (if_false _ _ _ (has 44), refl, refl),
            (
              refl,
              λ header present has. (if_false _ _ _ (has 51), refl, refl),
              (
                refl,
                final_leads all.hop_by_hop_options all.destination_options extensions.routing all.fragment all.auth next
                    last _,
                complete,
              ),
            ),
          ),
        ),
      ),
    )

-- The headers of the slots are those of the linked value.
routing_part : (after : Option Ipv6RoutingExtensions)
    → optional_part (λ (b : Ipv6RoutingExtensions). routing b.routing) after
    ≡ optional_part routing (option_map routing_header after)
routing_part None = refl
routing_part (Some after) = refl

final_led : (after : Option Ipv6RoutingExtensions) (next last : IpNumber)
    → option_map (raw_leading_to last) (final_by after)
    ≡ final_by (option_map (routing_leading_to next last) after)
final_led None next last = refl
final_led (Some after) next last = refl

-- The headers of the slots after other headers.
abbrev slots_after : List ExtensionPart → List Slot → IpNumber → List ExtensionPart
slots_after prefix [] last = prefix
slots_after prefix (slot number kind leading_to value present ∷ slots) last =
    slots_after (prefix ++ optional_part kind (option_map (leading_to (slots_first slots last)) present)) slots last

after_prefix : (prefix : List ExtensionPart) (slots : List Slot) (last : IpNumber)
    → prefix ++ slots_parts slots last ≡ slots_after prefix slots last
after_prefix prefix [] last = append-nil prefix
after_prefix prefix (slot number kind leading_to value present ∷ slots) last =
    let here = optional_part kind (option_map (leading_to (slots_first slots last)) present) in
    sym (append_assoc prefix here (slots_parts slots last)) ∙ after_prefix (prefix ++ here) slots last

parts_of_slots : (extensions : Ipv6Extensions) (last : IpNumber)
    → slots_parts (slots_of extensions last) last ≡ ipv6_parts (ipv6_linked extensions last)
parts_of_slots extensions last =
    let all = ipv6_linked extensions last in
    let prefix = optional_part hop_by_hop all.hop_by_hop_options
    ++ optional_part destination_options all.destination_options in
    let middle = optional_part fragment all.fragment in
    let auths = optional_part authentication all.auth in
    let routings = optional_part routing (option_map routing_header all.routing) in
    after_prefix [] (slots_of extensions last) last
    ∙ ap (λ (present : List ExtensionPart). prefix ++ present ++ middle ++ auths ++ optional_part destination_options
    (option_map (raw_leading_to last) (final_by extensions.routing))) (routing_part all.routing)
    ∙ ap (λ (final : Option Ipv6RawExtHeader). prefix ++ routings ++ middle ++ auths
    ++ optional_part destination_options final) (final_led extensions.routing (after_routing extensions last) last)

linked : (extensions : Ipv6Extensions) (last : IpNumber)
    → let all = ipv6_linked extensions last in
    IsWalkAfter all [] (ipv6_first extensions last).0 (ipv6_parts all) last.0 × (extensions_of (ipv6_parts all) ≡ all)
linked extensions last =
    let all = ipv6_linked extensions last in
    subst (λ (parts : List ExtensionPart). IsWalkAfter all [] (ipv6_first extensions last).0 parts last.0
    × (extensions_of parts ≡ all)) (parts_of_slots extensions last)
    (slots_walk all [] no_ipv6_extensions no_marks (slots_of extensions last) last marked_none (leads extensions last))

pub linked_value : (extensions : Ipv6Extensions) (last : IpNumber)
    → extensions_of (ipv6_parts (ipv6_linked extensions last)) ≡ ipv6_linked extensions last
linked_value extensions last = (linked extensions last).1

-- The next header fields of linked headers lead through all of them.
pub linked_walk : (extensions : Ipv6Extensions) (last : IpNumber)
    → WalksAll (ipv6_linked extensions last) (ipv6_first extensions last).0 (ipv6_parts
    (ipv6_linked extensions last)) last.0
linked_walk extensions last =
    let all = ipv6_linked extensions last in
    ((linked extensions last).0, ap (missing_number all) (linked_value extensions last) ∙ nothing_left all)

-- ---- written headers are a chain

-- The wire format of a header, followed by any bytes, is the header.
part_written : (part : ExtensionPart) (after : List ℕ) → FitsPart part
    → IsExtensionPart (part_number part) (part_bytes part ++ after) part after
part_written (hop_by_hop header) after fits = (refl, record { fits = fits; parts = refl })
part_written (destination_options header) after fits = (refl, record { fits = fits; parts = refl })
part_written (routing header) after fits = (refl, record { fits = fits; parts = refl })
part_written (fragment header) after fits = (
  refl,
  record {
    encoded = fragment_header_bytes header;
    encodes = record {
      fits = fits;
      reserved_byte = 0;
      byte = omega arith;
      reserved_bits = 0;
      bits = omega arith;
      same
          = refl;
    };
    parts = refl;
  },
)
part_written (authentication header) after fits = (
  refl,
  record {
    encoded = ip_auth_bytes header;
    encodes = record { fits = fits; reserved = 0; bits = omega arith; same = refl };
    parts = refl;
  },
)

kind_of_part : (part : ExtensionPart) → is_ipv6_extension (part_number part) ≡ true
kind_of_part (hop_by_hop header) = refl
kind_of_part _ = refl

-- Hop-by-Hop options are visited only as the first header.
hop_first : (extensions : Ipv6Extensions) (taken : List ℕ) (part : ExtensionPart)
    → header_for extensions taken 0 ≡ Some part → is_first taken ≡ true
hop_first extensions [] part found = refl
hop_first extensions (nearest ∷ taken) part found = absurd (none-some part (sym (past extensions nearest taken)
    ∙ found))
  where
    past : (extensions : Ipv6Extensions) (nearest : ℕ) (taken : List ℕ)
        → header_for extensions (nearest ∷ taken) 0 ≡ None
    past extensions nearest taken = grind (arith, common_steps)

walk_is_chain : (extensions : Ipv6Extensions) (taken : List ℕ) (number : ℕ) (parts : List ExtensionPart) (last : ℕ)
    (rest : List ℕ)
    → IsWalkAfter extensions taken number parts last → FitParts parts → is_ipv6_extension last ≡ false
    → IsChainAfter ipv6 headers taken number (parts_bytes parts ++ rest) parts last rest
walk_is_chain extensions taken number [] last rest walk fit none = (
  headers_end taken number (ap is_ipv6_extension
      (sym walk.1) ∙ none),
  walk.1,
  refl,
)
walk_is_chain extensions taken number (part ∷ parts) last rest walk fit none =
    let kind = found_kind extensions taken number part walk.0 in
    let start : number ≡ 0 → is_first taken ≡ true = λ zero_is. hop_first extensions taken part (subst (λ
    (n : ℕ). header_for extensions taken n ≡ Some part) zero_is walk.0) in
    let after = parts_bytes parts ++ rest in
    let bytes : part_bytes part ++ after ≡ (part_bytes part ++ parts_bytes parts) ++ rest = sym (append_assoc
    (part_bytes part) (parts_bytes parts) rest) in
    let here = subst (λ (n : ℕ). IsExtensionPart n (part_bytes part ++ after) part after) (sym kind.0)
    (part_written part after fit.0) in (
      headers_take taken number (ap is_ipv6_extension kind.0 ∙ kind_of_part part) start kind.1,
      (
        after,
        subst (λ (b : List ℕ). IsExtensionPart number b part after) bytes here,
        walk_is_chain extensions (number ∷ taken) (part_next part) parts last rest walk.1 fit.1 none,
      ),
    )

pub written_chain : (extensions : Ipv6Extensions) (first : ℕ) (parts : List ExtensionPart) (last : ℕ) (rest : List ℕ)
    → WalksAll extensions first parts last → FitParts parts → is_ipv6_extension last ≡ false
    → IsExtensionChain ipv6 headers first (parts_bytes parts ++ rest) (chain_of parts last rest)
written_chain extensions first parts last rest walks fit none = walk_is_chain extensions [] first parts last rest
    walks.0 fit none

pub linked_chain : (extensions : Ipv6Extensions) (last : IpNumber) (rest : List ℕ)
    → FitParts (ipv6_parts (ipv6_linked extensions last)) → is_ipv6_extension last.0 ≡ false
    → IsExtensionChain ipv6 headers (ipv6_first extensions last).0 (parts_bytes (ipv6_parts
    (ipv6_linked extensions last)) ++ rest) (chain_of (ipv6_parts (ipv6_linked extensions last)) last.0 rest)
linked_chain extensions last rest fit none =
    written_chain (ipv6_linked extensions last) (ipv6_first extensions last).0 (ipv6_parts
    (ipv6_linked extensions last)) last.0 rest (linked_walk extensions last) fit none

-- ---- IPv4

linked_walk_by : (auth : Option IpAuthHeader) (last : IpNumber)
    → ipv4_walk (ipv4_linked (record { auth = auth }) last) (ipv4_first (record { auth = auth }) last) ≡ Ok last
linked_walk_by None last = refl
linked_walk_by (Some header) last = refl

pub linked_walk_4 : (extensions : Ipv4Extensions) (last : IpNumber)
    → ipv4_walk (ipv4_linked extensions last) (ipv4_first extensions last) ≡ Ok last
linked_walk_4 extensions last = linked_walk_by extensions.auth last

linked_chain_by : (auth : Option IpAuthHeader) (last : IpNumber) (rest : List ℕ)
    → FitParts (ipv4_parts (ipv4_linked (record { auth = auth }) last)) → (last.0 ≡ 51 → ⊥)
    → IsExtensionChain ipv4 headers (ipv4_first (record { auth = auth }) last).0 (parts_bytes (ipv4_parts
    (ipv4_linked (record { auth = auth }) last)) ++ rest)
    (chain_of (ipv4_parts (ipv4_linked (record { auth = auth }) last)) last.0 rest)
linked_chain_by None last rest fit other = ends_at_once headers last.0 rest other
linked_chain_by (Some header) last rest fit other =
    let present = record header { next_header = last } in
    let bytes : ip_auth_bytes present ++ rest ≡ (ip_auth_bytes present ++ []) ++ rest = sym (append_assoc
    (ip_auth_bytes present) [] rest) in
    subst (λ (b : List ℕ). IsExtensionChain ipv4 headers 51 b (chain_of (authentication present ∷ []) last.0 rest)) bytes
    (one_authentication headers 51 (ip_auth_bytes present ++ rest) present rest refl (part_written
    (authentication present) rest fit.0).1)

pub linked_chain_4 : (extensions : Ipv4Extensions) (last : IpNumber) (rest : List ℕ)
    → FitParts (ipv4_parts (ipv4_linked extensions last)) → (last.0 ≡ 51 → ⊥)
    → IsExtensionChain ipv4 headers (ipv4_first extensions last).0 (parts_bytes (ipv4_parts
    (ipv4_linked extensions last)) ++ rest) (chain_of (ipv4_parts (ipv4_linked extensions last)) last.0 rest)
linked_chain_4 extensions last rest fit other = linked_chain_by extensions.auth last rest fit other
