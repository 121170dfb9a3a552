-- `ceil` meets its contract: each way out is a law of Ceiling. Assumes nothing.
use Rattle.std.proofs.Common.{◌<◌, true, false, T, pos, sym, ap, ◌∙◌, subst, arith}
use lib.Ieee.{Float, fin, of_bits, lt}
use Rattle.floats.specs.Floats.{zero32}
use Rattle.floats.proofs.Cross.{of_taken}
use Rattle.floats.proofs.Preorder.{lt_trans_f}
use Rattle.floats.proofs.Ceiling.{top, ceil_none, ceil_top, ceil_small, ceil_flat, ceil_more, ceil_large}
use Rattle.floats.proofs.ceil.Goals as goal
use Rattle.floats.proofs.ceil.Goals.{else-v-3-via-then-v-3+else-nearest_u32_to_f32-v, else-v-3-via-else-v-3}

abbrev minus : Float
minus = fin true 1 (pos 0)

-- the whole part has 31 binary digits
small : (c : goal.After-truncating_f32_to_u64-whole) → c.truncating_f32_to_u64-whole.result < 2147483648
unfolding of_bits
small c = ceil_small c.args.v _ c.truncating_f32_to_u64-whole.ensures c.if-v.true c.if-v-2.true

pub truncating_f32_to_u64-whole-requires : goal.truncating_f32_to_u64-whole-requires
unfolding of_bits
truncating_f32_to_u64-whole-requires c =
    let v = c.args.v in
    record {
      lower_bound = lt_trans_f minus zero32 v (unfold lt in tt) (of_taken c.if-v.true);
      upper_bound = lt_trans_f v top (fin false 1 (pos 64)) (of_taken c.if-v-2.true) (unfold lt in tt);
    }

pub overflow_cast-whole : goal.overflow_cast-whole
unfolding of_bits
overflow_cast-whole c = let h = small c in omega arith

pub overflow_add-result : goal.overflow_add-result
unfolding of_bits
overflow_add-result c = let h = small c.before.before.before in omega arith

pub returns-then-nearest_u32_to_f32-v : goal.returns-then-nearest_u32_to_f32-v
unfolding of_bits
returns-then-nearest_u32_to_f32-v c =
    let t = c.before.before.before in
    ceil_more t.args.v _ t.truncating_f32_to_u64-whole.ensures t.if-v.true c.if-v-3.true (ap (λ (x : Float). lt x t.args.v) (sym c.nearest_u32_to_f32.ensures) ∙ c.if-nearest_u32_to_f32-v.true)

pub returns-then-v-2 : goal.returns-then-v-2
unfolding of_bits
returns-then-v-2 c =
    let v = c.args.v in
    elim c.else-v-3.branch [
      | else-v-3-via-then-v-3+else-nearest_u32_to_f32-v w ↦
          ceil_flat v _ c.truncating_f32_to_u64-whole.ensures c.if-v.true w.if-v-3.true (ap (λ (x : Float). lt x v) (sym w.nearest_u32_to_f32.ensures) ∙ w.if-nearest_u32_to_f32-v.false)
      | else-v-3-via-else-v-3 w ↦
          ceil_large v _ c.truncating_f32_to_u64-whole.ensures (subst T (sym c.well_formed.0.1) tt) c.if-v.true c.if-v-2.true w.if-v-3.false
    ]

pub returns-then-v : goal.returns-then-v
unfolding of_bits
returns-then-v c = ceil_top c.args.v c.if-v.true c.if-v-2.false

pub returns : goal.returns
unfolding of_bits
returns c = ceil_none c.args.v c.if-v.false
