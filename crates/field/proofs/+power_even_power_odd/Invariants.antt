-- The exponent falls at each call: the odd rule calls at one less, the even rule at half.
use Rattle.field.proofs.+power_even_power_odd.Given as goal

abbrev pub decreases-power_even : goal.decreases-power_even
decreases-power_even l = l.e

abbrev pub decreases-power_odd : goal.decreases-power_odd
decreases-power_odd l = l.e
