-- Lemmas about running the steps of a filter with its sets of hosts.
use Rattle.std.proofs.Common.{◌≡◌, ℕ, ◌+◌, ◌<◌, ◌≤◌, Bool, ◌||◌, List, length, get_or, drop, ap, sym, subst, ◌∙◌, arith, length-drop}
use Rattle.std.specs.List.{All}
use Rattle.std.proofs.lemmas.List.{drop-drop}
use Rattle.std.proofs.lemmas.List.Elements.{All-drop, All-get_or}
use Rattle.packet_filter.specs.declared.host_set.HostSet.{HostSet}
use Rattle.filter_language.specs.declared.step.Step.{Step}
use Rattle.packet_filter.specs.HostSets.{BeginsHostSet, HasHostSet, matches_set}
use Rattle.packet_filter.specs.Meaning.{meaning}
use Rattle.packet_filter.specs.Packets.{Packet}
use Rattle.packet_filter.specs.Running.{value_after}
use Rattle.filter_language.specs.Trees.{tree_of}
use Rattle.packet_filter.proofs.HostLemmas.{same_end, set_runs}

-- The steps that are left of all of them lead to the meaning, and the sets are sets of all steps.
abbrev pub Runs : List Step → List HostSet → Packet → List Step → Bool → Type 0
Runs all sets packet steps kept =
    (value_after steps 0 kept packet ≡ meaning (tree_of all) packet)
    × ((n : ℕ) × (steps ≡ drop n all))
    × All (HasHostSet all) sets

-- Later steps with the same value lead to it too.
pub goes_on : (all steps next : List Step) (sets later : List HostSet) (packet : Packet) (kept value : Bool) (k : ℕ)
    → next ≡ drop k steps → ((m : ℕ) × (later ≡ drop m sets))
    → value_after next 0 value packet ≡ value_after steps 0 kept packet
    → Runs all sets packet steps kept → Runs all later packet next value
goes_on all steps next sets later packet kept value k next_is (m, later_is) same (leads, (n, steps_are), have) = (
  same ∙ leads,
  (n + k, next_is ∙ ap (λ (list : List Step). drop k list) steps_are ∙ drop-drop k n all),
  subst (λ (list : List HostSet). All (HasHostSet all) list) (sym later_is) (All-drop (HasHostSet all) m sets have),
)

-- A set that begins where the steps are left begins with them.
begins_here : (all steps : List Step) (sets later : List HostSet) (packet : Packet) (kept : Bool) (set : HostSet)
    → ((m : ℕ) × (later ≡ drop m sets)) → 1 ≤ length later → set ≡ get_or later 0 set → set.left ≡ length steps
    → Runs all sets packet steps kept → BeginsHostSet steps set
begins_here all steps sets later packet kept set (m, later_is) some at left (leads, (n, steps_are), have) =
    let has : HasHostSet all set =
    subst (λ (one : HostSet). HasHostSet all one) (sym at)
    (All-get_or (HasHostSet all) later 0 set some
    (subst (λ (list : List HostSet). All (HasHostSet all) list) (sym later_is)
    (All-drop (HasHostSet all) m sets have))) in
    let (k, begins) = has in
    subst (λ (list : List Step). BeginsHostSet list set)
    (same_end all k n (sym begins.left ∙ left ∙ ap length steps_are) ∙ sym steps_are) begins

pub set_goes_on : (all steps next : List Step) (sets later : List HostSet) (packet : Packet) (kept value : Bool)
    (set : HostSet) → ((m : ℕ) × (later ≡ drop m sets)) → 1 ≤ length later → set ≡ get_or later 0 set
    → set.left ≡ length steps → next ≡ drop set.len steps → value ≡ (kept || matches_set set packet)
    → Runs all sets packet steps kept → Runs all later packet next value
set_goes_on all steps next sets later packet kept value set later_is some at left next_is value_is runs =
    goes_on all steps next sets later packet kept value set.len next_is later_is
    (ap (λ (list : List Step). value_after list 0 value packet) next_is
    ∙ ap (λ (b : Bool). value_after (drop set.len steps) 0 b packet) value_is
    ∙ set_runs steps set kept packet (begins_here all steps sets later packet kept set later_is some at left runs)) runs

pub set_ends : (all steps next : List Step) (sets later : List HostSet) (packet : Packet) (kept : Bool)
    (set : HostSet) → ((m : ℕ) × (later ≡ drop m sets)) → 1 ≤ length later → set ≡ get_or later 0 set
    → set.left ≡ length steps → next ≡ drop set.len steps → 1 ≤ length steps
    → Runs all sets packet steps kept → length next < length steps
set_ends all steps next sets later packet kept set later_is some at left next_is more runs =
    let begins = begins_here all steps sets later packet kept set later_is some at left runs in
    omega (arith, begins.some, more, ap length next_is, length-drop set.len steps)
