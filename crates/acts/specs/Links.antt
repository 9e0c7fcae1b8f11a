-- Going through the links of a chain, from the last back.
use Rattle.std.specs.Prelude.{◌≡◌, cond, ℕ, ◌<◌, ◌-◌, ◌/◌, ◌%◌, ltb, get_or, Option}
use Rattle.std.specs.Option.{MatchOption}
use Rattle.acts.specs.declared.links.Link.{Link}
use Rattle.acts.specs.declared.links.Links.{Links}

-- what a word says as a link
abbrev pub link_in : ℕ → Link
link_in w = record { before = w % 512; right = w / 512 % 64; time = w / 32768 % 1073741824 }

-- the link that is next is met
pub record Met (before : Links) (link : Link) (after : Links) : Type 0 where
  pub more : before.next ≡ 0 → ⊥
  pub is : link ≡ link_in (get_or before.links.now ((before.next - 1) % 256) 0)
  pub same : after.links ≡ before.links
  pub next : after.next ≡ cond (ltb link.before before.next) link.before 0
  pub less : after.next < before.next

-- a turn: no link is left, or the next is met
abbrev pub LinkByLink : Links → Option Link → Links → Type 0
LinkByLink before r after = MatchOption r (before.next ≡ 0) (λ link. Met before link after)
