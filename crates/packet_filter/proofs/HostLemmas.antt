-- Lemmas about sets of hosts.
use Rattle.std.proofs.Common.{◌≡◌, ◌≢◌, ℕ, ◌+◌, ◌*◌, ◌≤◌, Bool, true, false, ◌==◌, ◌||◌, List, [], ◌∷◌, ◌++◌, length, map, drop, Option, Some, None, ◌-◌, ◌⊎◌, inl, inr, ⊎_elim, Result, Ok, Err, get_or, refl, ap, sym, subst, ◌∙◌, arith, eqb-true, eq-eqb, length-append, length-drop}
use Rattle.std.specs.List.{All, list_any}
use Rattle.std.specs.List.Sorted.{IsBinarySearchResult, IsPermutation, IsSorted}
use Rattle.std.specs.Option.{option_map_or}
use Rattle.std.specs.Ordering.{nat_cmp}
use Rattle.std.specs.Result.{is_ok}
use Rattle.std.specs.Str.{bytes_eq}
use Rattle.std.proofs.lemmas.List.{drop_all, length-map, map-append}
use Rattle.std.proofs.lemmas.List.Elements.{All-from_get_or, All-head, All-push, All-tail}
use Rattle.std.proofs.lemmas.List.Folds.{list_any_at, list_any_none}
use Rattle.std.proofs.lemmas.List.Sorted.{IsNonDecreasingBy-from_sort, list_any-IsPermutation, searched}
use Rattle.ep_base.specs.Bytes.{AreBytes}
use Rattle.ep_packet.specs.Layers.{NetLayer}
use Rattle.filter_tokens.specs.declared.network.Network.{Network}
use Rattle.filter_tokens.specs.declared.primitive.AddressLayer.{AddressLayer}
use Rattle.filter_tokens.specs.declared.primitive.Primitive.{Primitive}
use Rattle.filter_tokens.specs.declared.primitive.Primitive.TheVariants as primitive
use Rattle.filter_tokens.specs.declared.primitive.Side.{Side}
use Rattle.filter_tokens.specs.declared.primitive.Side.TheVariants.{Source, Destination, Either, Both}
use Rattle.filter_tokens.specs.Networks.{address_bytes, big_endian, bytes_of, is_within}
use Rattle.filter_tokens.proofs.NumberLemmas.{bytes_length, host_address, not_true, number_of_address, other_length, sides}
use Rattle.packet_filter.specs.declared.host_set.HostSet.{HostSet}
use Rattle.filter_language.specs.declared.step.Step.{Step}
use Rattle.filter_language.specs.declared.step.Step.TheVariants as step
use Rattle.packet_filter.specs.HostRuns.{BeginsHost, IsHost, host_number, or_hosts}
use Rattle.packet_filter.specs.HostSets.{BeginsHostSet, is_one_of, matches_set}
use Rattle.packet_filter.specs.Meaning.{at_side_of, matches_primitive}
use Rattle.packet_filter.specs.Packets.{Packet, addresses_of}
use Rattle.packet_filter.specs.Running.{value_after}

-- ---- running

or_none : (kept : Bool) → (kept || false) ≡ kept
or_none true = refl
or_none false = refl

or_more : (a b c : Bool) → ((a || b) || c) ≡ (a || (b || c))
or_more true b c = refl
or_more false b c = refl

-- Running `or` and a test makes the value true where the test holds.
one_more : (kept : Bool) (p : Primitive) (rest : List Step) (packet : Packet)
    → value_after (step.SkipIfTrue 1 ∷ step.Test p ∷ rest) 0 kept packet
    ≡ value_after rest 0 (kept || matches_primitive p packet) packet
one_more true p rest packet = refl
one_more false p rest packet = refl

abbrev matches_one : AddressLayer → Side → List Network → Packet → Bool
matches_one layer side hosts packet =
    list_any (λ host. matches_primitive (primitive.Address layer side host) packet) hosts

-- Running `or` with hosts makes the value true where one of them matches.
runs_hosts : (layer : AddressLayer) (side : Side) (hosts : List Network) (rest : List Step) (kept : Bool)
    (packet : Packet)
    → value_after (or_hosts layer side hosts ++ rest) 0 kept packet
    ≡ value_after rest 0 (kept || matches_one layer side hosts packet) packet
runs_hosts layer side [] rest kept packet = ap (λ (value : Bool). value_after rest 0 value packet) (sym (or_none kept))
runs_hosts layer side (host ∷ hosts) rest kept packet =
    let here = matches_primitive (primitive.Address layer side host) packet in
    one_more kept (primitive.Address layer side host) (or_hosts layer side hosts ++ rest) packet
    ∙ runs_hosts layer side hosts rest (kept || here) packet
    ∙ ap (λ (value : Bool). value_after rest 0 value packet) (or_more kept here (matches_one layer side hosts packet))

-- ---- any host

never : (hosts : List Network) → list_any (λ host. false) hosts ≡ false
never [] = refl
never (host ∷ hosts) = never hosts

shuffled : (a b c d : Bool) → ((a || b) || (c || d)) ≡ ((a || c) || (b || d))
shuffled true b c d = refl
shuffled false true true d = refl
shuffled false true false d = refl
shuffled false false c d = refl

either_any : (hosts : List Network) (p q : Network → Bool)
    → list_any (λ host. p host || q host) hosts ≡ (list_any p hosts || list_any q hosts)
either_any [] p q = refl
either_any (host ∷ hosts) p q =
    ap (λ (others : Bool). (p host || q host) || others) (either_any hosts p q)
    ∙ shuffled (p host) (q host) (list_any p hosts) (list_any q hosts)

-- A host has one of two addresses where one of the addresses is a host's.
any_side : (side : Side) (hosts : List Network) (addresses : List (List ℕ)) → side ≢ Both
    → list_any (λ host. at_side_of side (is_within host) addresses) hosts
    ≡ at_side_of side (λ address. list_any (λ host. is_within host address) hosts) addresses
any_side side hosts [] one = never hosts
any_side side hosts (a ∷ []) one = never hosts
any_side Source hosts (a ∷ b ∷ []) one = refl
any_side Destination hosts (a ∷ b ∷ []) one = refl
any_side Either hosts (a ∷ b ∷ []) one = either_any hosts (λ host. is_within host a) (λ host. is_within host b)
any_side Both hosts (a ∷ b ∷ []) one = absurd (one refl)
any_side side hosts (a ∷ b ∷ c ∷ others) one = never hosts

-- An address is one of the hosts where it has one of their numbers.
any_number : (width : ℕ) (address : List ℕ) (hosts : List Network) → All (IsHost width) hosts
    → list_any (λ host. is_within host address) hosts
    ≡ list_any (λ number. bytes_eq address (bytes_of width number)) (map host_number hosts)
any_number width address [] all = refl
any_number width address (host ∷ hosts) all =
    let (long, full, small) = All-head (IsHost width) host hosts all in
    ap (λ (here : Bool). here || list_any (λ other. is_within other address) hosts)
    (host_address width host.bits address (address_bytes host.address) long full small)
    ∙ ap (λ (others : Bool). bytes_eq address (bytes_of width (host_number host)) || others)
    (any_number width address hosts (All-tail (IsHost width) host hosts all))

-- A packet matches one of the hosts where it matches their set.
any_matches : (set : HostSet) (hosts : List Network) (packet : Packet) → All (IsHost set.width) hosts
    → IsPermutation (map host_number hosts) set.numbers.items → set.side ≢ Both
    → matches_one set.layer set.side hosts packet ≡ matches_set set packet
any_matches set hosts packet all permuted one = in_layer packet.layers.net.layer
  where
    test : List ℕ → Bool
    test address = list_any (λ host. is_within host address) hosts

    tests : (address : List ℕ) → list_any (λ host. is_within host address) hosts ≡ is_one_of set address
    tests address =
        any_number set.width address hosts all
        ∙ list_any-IsPermutation (λ number. bytes_eq address (bytes_of set.width number)) (map host_number hosts)
        set.numbers.items permuted

    in_layer : (layer : Option NetLayer)
        → list_any (λ host. option_map_or
        (λ net. at_side_of set.side (is_within host) (addresses_of set.layer net)) layer false) hosts
        ≡ option_map_or (λ net. at_side_of set.side (is_one_of set) (addresses_of set.layer net)) layer false
    in_layer None = never hosts
    in_layer (Some net) =
        any_side set.side hosts (addresses_of set.layer net) one
        ∙ ap (λ (holds : List ℕ → Bool). at_side_of set.side holds (addresses_of set.layer net))
        (λ i address. tests address i)

passed : {X : Type 0} (prefix back : List X) → drop (length prefix) (prefix ++ back) ≡ back
passed [] back = refl
passed (x ∷ prefix) back = passed prefix back

-- Running the steps of a set.
pub set_runs : (steps : List Step) (set : HostSet) (kept : Bool) (packet : Packet) → BeginsHostSet steps set
    → value_after (drop set.len steps) 0 (kept || matches_set set packet) packet ≡ value_after steps 0 kept packet
set_runs steps set kept packet begins =
    let run = or_hosts set.layer set.side begins.hosts in
    let after : drop set.len steps ≡ begins.after =
    ap (λ (n : ℕ). drop n steps) begins.len ∙ ap (λ (all : List Step). drop (length run) all) begins.are
    ∙ passed run begins.after in
    ap (λ (left : List Step). value_after left 0 (kept || matches_set set packet) packet) after
    ∙ sym (ap (λ (all : List Step). value_after all 0 kept packet) begins.are
    ∙ runs_hosts set.layer set.side begins.hosts begins.after kept packet
    ∙ ap (λ (any : Bool). value_after begins.after 0 (kept || any) packet)
    (any_matches set begins.hosts packet begins.all begins.numbers begins.one_side))

-- Steps at the end of others are as many there.
pub same_end : {X : Type 0} (xs : List X) (m n : ℕ) → length (drop m xs) ≡ length (drop n xs) → drop m xs ≡ drop n xs
same_end xs m n same =
    ⊎_elim
    (λ within. ap (λ (k : ℕ). drop k xs) (omega (arith, within, same, length-drop m xs, length-drop n xs)))
    (λ past. drop_all m xs past ∙ sym (drop_all n xs (omega (arith, past, same, length-drop m xs, length-drop n xs))))
    (sides m (length xs))

-- ---- reading

-- The steps begin with hosts, which have these numbers, and the rest.
abbrev pub HasRead : AddressLayer → Side → ℕ → List Step → List Step → List ℕ → Type 0
HasRead layer side width steps rest numbers =
    (hosts : List Network) × (steps ≡ or_hosts layer side hosts ++ rest)
    × (numbers ≡ map host_number hosts) × All (IsHost width) hosts

or_one_more : (layer : AddressLayer) (side : Side) (hosts : List Network) (host : Network) (after : List Step)
    → or_hosts layer side (hosts ++ host ∷ []) ++ after
    ≡ or_hosts layer side hosts ++ (step.SkipIfTrue 1 ∷ step.Test (primitive.Address layer side host) ∷ after)
or_one_more layer side [] host after = refl
or_one_more layer side (first ∷ hosts) host after =
    ap (λ (others : List Step). step.SkipIfTrue 1 ∷ step.Test (primitive.Address layer side first) ∷ others)
    (or_one_more layer side hosts host after)

pub one_host : (layer : AddressLayer) (side : Side) (width number : ℕ) (steps rest later : List Step)
    (numbers pushed : List ℕ) → HasRead layer side width steps rest numbers → BeginsHost layer side width rest number
    → later ≡ drop 2 rest → pushed ≡ numbers ++ number ∷ [] → HasRead layer side width steps later pushed
one_host layer side width number steps rest later numbers pushed
    (hosts, are, numbers_are, all) (host, after, begins, is_host, number_is) later_is pushed_are = (
      hosts ++ host ∷ [],
      are ∙ ap (λ (list : List Step). or_hosts layer side hosts ++ list) begins
          ∙ sym (or_one_more layer side hosts host after)
          ∙ ap (λ (list : List Step). or_hosts layer side (hosts ++ host ∷ []) ++ list)
          (sym (later_is ∙ ap (λ (list : List Step). drop 2 list) begins)),
      pushed_are ∙ ap (λ (list : List ℕ). list ++ number ∷ []) numbers_are
          ∙ ap (λ (n : ℕ). map host_number hosts ++ n ∷ []) number_is
          ∙ sym (map-append host_number hosts (host ∷ [])),
      All-push (IsHost width) hosts host all is_host,
    )

hosts_length : (layer : AddressLayer) (side : Side) (hosts : List Network)
    → length (or_hosts layer side hosts) ≡ 2 * length hosts
hosts_length layer side [] = refl
hosts_length layer side (host ∷ hosts) = omega (arith, hosts_length layer side hosts)

-- A set of the hosts that are read.
pub set_begins : (set : HostSet) (steps rest : List Step) (numbers : List ℕ)
    → HasRead set.layer set.side set.width steps rest numbers → set.left ≡ length steps
    → set.len ≡ length steps - length rest → 4 ≤ length numbers → IsPermutation numbers set.numbers.items
    → set.side ≢ Both → BeginsHostSet steps set
set_begins set steps rest numbers (hosts, are, numbers_are, all) left_is len_is some permuted one =
    let lengths : length steps ≡ length (or_hosts set.layer set.side hosts) + length rest =
    ap length are ∙ length-append (or_hosts set.layer set.side hosts) rest in
    let many : length numbers ≡ length hosts = ap length numbers_are ∙ length-map hosts host_number in
    record {
      hosts = hosts;
      after = rest;
      are = are;
      left = left_is;
      len = omega (arith, len_is, lengths);
      some = omega (arith, len_is, lengths, many, some, hosts_length set.layer set.side hosts);
      all = all;
      numbers = subst (λ (list : List ℕ). IsPermutation list set.numbers.items) numbers_are permuted;
      one_side = one;
    }

-- ---- searching

-- Whether a search of sorted numbers finds one of them.
pub search_finds : (numbers : List ℕ) (number : ℕ) (found : Result ℕ ℕ)
    → IsBinarySearchResult (λ y. nat_cmp y number) numbers found → IsSorted nat_cmp numbers
    → is_ok found ≡ list_any (λ other. other == number) numbers
search_finds numbers number (Ok at) result up =
    let (within, is) =
    searched numbers number (Ok at) result (λ i j. IsNonDecreasingBy-from_sort (λ x. x) numbers up i j 0) in
    sym (list_any_at (λ other. other == number) numbers at 0 within (eq-eqb _ _ is))
search_finds numbers number (Err at) result up =
    let (bound, below, above) =
    searched numbers number (Err at) result (λ i j. IsNonDecreasingBy-from_sort (λ x. x) numbers up i j 0) in
    sym (list_any_none (λ other. other == number) numbers
    (All-from_get_or (λ other. (other == number) ≡ false) numbers 0
    (λ k within. not_true _ (λ is. let same = eqb-true _ _ is in
    ⊎_elim (λ less. omega (arith, same, below k less)) (λ more. omega (arith, same, above k more within))
    (sides k at)))))

wide_is : (width : ℕ) → ((width == 4) || (width == 16)) ≡ true → (width ≡ 4) ⊎ (width ≡ 16)
wide_is width is = by_cases (width == 4) (width == 16) refl refl is
  where
    by_cases : (a b : Bool) → (width == 4) ≡ a → (width == 16) ≡ b → (a || b) ≡ true → (width ≡ 4) ⊎ (width ≡ 16)
    by_cases true b four other is = inl (eqb-true _ _ four)
    by_cases false true four other is = inr (eqb-true _ _ other)
    by_cases false false four other is = let absurdly : ⊥ = cc in absurd absurdly

-- A search of a set's numbers finds the address.
pub set_has : (set : HostSet) (address : List ℕ) (number : ℕ) (found : Result ℕ ℕ)
    → ((set.width == 4) || (set.width == 16)) ≡ true → IsSorted nat_cmp set.numbers.items → AreBytes address
    → length address ≡ set.width → (length address ≡ 4 → number ≡ big_endian address)
    → (length address ≡ 16 → number ≡ big_endian address)
    → IsBinarySearchResult (λ y. nat_cmp y number) set.numbers.items found
    → is_ok found ≡ is_one_of set address
set_has set address number found wide up small long four sixteen result =
    let widths : (set.width ≡ 4) ⊎ (set.width ≡ 16) = wide_is set.width wide in
    let number_is : number ≡ big_endian address = ⊎_elim (λ is. four (long ∙ is)) (λ is. sixteen (long ∙ is)) widths in
    search_finds set.numbers.items number found result up
    ∙ ap (λ (test : ℕ → Bool). list_any test set.numbers.items)
    (λ i other. (ap (λ (n : ℕ). other == n) number_is
    ∙ sym (number_of_address set.width other address widths small long)) i)

-- A set has no address of another length.
pub other_width : (set : HostSet) (address : List ℕ) → (length address ≡ set.width → ⊥)
    → (length address == set.width) ≡ is_one_of set address
other_width set address differ =
    not_true _ (λ is. differ (eqb-true _ _ is))
    ∙ sym (list_any_none (λ number. bytes_eq address (bytes_of set.width number)) set.numbers.items
    (All-from_get_or (λ number. bytes_eq address (bytes_of set.width number) ≡ false) set.numbers.items 0
    (λ k within. other_length address (bytes_of set.width (get_or set.numbers.items k 0))
    (λ same. differ (same ∙ bytes_length set.width (get_or set.numbers.items k 0))))))
