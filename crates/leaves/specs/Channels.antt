-- docs/RULES.md, 10 (01, "The tree"): TREEVAL "1, 2, 3 replace red, green, blue": the number of each channel.
use Rattle.std.specs.Prelude.{ℕ, eqb}
use Rattle.rules.specs.Folds.{choose}
use Rattle.leaves.specs.declared.Channel.{Channel}
use Rattle.leaves.specs.declared.Channel.TheVariants.{Red, Green, Blue}

abbrev pub channel_number : Channel → ℕ
channel_number Red = 1
channel_number Green = 2
channel_number Blue = 3

-- and the channel of a number: any but 1 and 2 replaces blue, as in `replaced`
abbrev pub channel_of : ℕ → Channel
channel_of kind = choose (eqb kind 1) Red (choose (eqb kind 2) Green Blue)
