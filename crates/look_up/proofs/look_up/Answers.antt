use native.Mathlib.Omega.{arith}
use Rattle.look_up.proofs.LookUpLaws.{cut_answer, cut_within, cut_part, cut_place}
use Rattle.look_up.proofs.look_up.Goals as goal

pub overflow_add-result : goal.overflow_add-result
overflow_add-result c = record { fits = omega (arith, cut_within _ _ _ _ c.look_up_span-span.ensures) }

pub slice_bounds-result-end : goal.slice_bounds-result-end
slice_bounds-result-end c = cut_within _ _ _ _ c.look_up_span-span.ensures

pub returns : goal.returns
returns c = (
  cut_answer _ _ _ _ c.look_up_span-span.ensures,
  cut_part _ _ _ _ c.look_up_span-span.ensures,
  cut_place _ _ _ _ _ c.look_up_span-span.ensures,
)
