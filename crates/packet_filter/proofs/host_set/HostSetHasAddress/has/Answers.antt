use Rattle.std.proofs.Common.{ℕ, List, subst, ◌∙◌}
use Rattle.std.specs.List.Sorted.{IsBinarySearchResult}
use Rattle.std.specs.Ordering.{nat_cmp}
use Rattle.packet_filter.proofs.HostLemmas.{other_width, set_has}
use Rattle.packet_filter.proofs.host_set.HostSetHasAddress.has.Goals as goal

pub returns-then-address-self : goal.returns-then-address-self
returns-then-address-self c =
    c.is_ok.ensures.value
    ∙ set_has c.args.self.now c.args.address.now c.number_of.result c.binary_search.result c.args.self.now.wide
    c.args.self.now.sorted c.number_of.ensures.bytes c.if-address-self.true c.number_of.ensures.ipv4
    c.number_of.ensures.ipv6
    (subst (λ (list : List ℕ). IsBinarySearchResult (λ y. nat_cmp y c.number_of.result) list c.binary_search.result)
    c.as_slice.ensures.value c.binary_search.ensures.position)

pub returns-else-address-self : goal.returns-else-address-self
returns-else-address-self c = other_width c.args.self.now c.args.address.now c.if-address-self.false
