use Rattle.std.proofs.Common.{◌≡◌, ◌++◌, ◌∙◌, Option, Some, None, ℕ, sym, ap}
use Rattle.std.proofs.lemmas.Result.{on_ok_weaker}
use Rattle.std.specs.Option.{option_map}
use Rattle.etherparse.specs.IpFragments.{IpFragment}
use Rattle.etherparse.specs.Types.EvictionCause.TheVariants.{Streams}
use Rattle.etherparse.specs.Types.IpFragId.{IpFragId}
use Rattle.packet_dump.specs.CarriedFragments.{plain_carried}
use Rattle.packet_dump.specs.Decoding.{packet_of}
use Rattle.packet_dump.specs.EvictionLines.{eviction_line, moment_of}
use Rattle.packet_dump.proofs.eviction_lines.push_own_eviction.Goals as goal

same_name : (name other : IpFragId ℕ) (fragment part : IpFragment)
    → ◌≡◌ {A = Option (IpFragId ℕ × IpFragment)} (Some (name, fragment)) (Some (other, part)) → other ≡ name
same_name name other fragment part is =
    let pairs : ◌≡◌ {A = IpFragId ℕ × IpFragment} (name, fragment) (other, part) = cc in
    sym (ap (λ (pair : IpFragId ℕ × IpFragment). pair.0) pairs)

pub returns-in-Some : goal.returns-in-Some
returns-in-Some c =
    on_ok_weaker c.push_eviction.result
    (λ line name fragment given.
    let options = c.args.options.now in
    let carried = c.in-Some.carried in
    let same = same_name name carried.name fragment carried.fragment
    (given ∙ sym c.carried_fragment.ensures ∙ ap (option_map plain_carried) c.in-Some.is) in
    line ∙ ap (λ (n : IpFragId ℕ). c.args.output.now.items
    ++ eviction_line options (moment_of options (packet_of c.args.packet.now)) n Streams) same)
    c.push_eviction.ensures

never : (name : IpFragId ℕ) (fragment : IpFragment)
    → ◌≡◌ {A = Option (IpFragId ℕ × IpFragment)} (Some (name, fragment)) None → ⊥
never name fragment is = cc

pub returns-in-None : goal.returns-in-None
returns-in-None c = λ name fragment given.
    absurd (never name fragment (given ∙ sym c.carried_fragment.ensures ∙ ap (option_map plain_carried) c.in-None.is))
