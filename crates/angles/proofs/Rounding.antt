-- How far `round` goes: less than one unit of the last place kept. Assumes nothing.
use Rattle.std.proofs.Common.{ℕ, suc, ◌+◌, ◌-◌, ◌*◌, ◌/◌, ◌%◌, ◌^◌, ◌<◌, ◌≤◌, false, lt_of_lt_of_le, mul-le-mul_right, div-lt_iff_lt-mul, lt_of_mul-lt-mul_right, mul-pos, div-mul-le_self, le_of_mul-le-mul_right, arith, lit≤, pow_pos, pow_mono}
use Prim.Native.Nat.{compare}
use native.Mathlib.Nat.{lt-div-mul-add}
use lib.Ieee.{up, Format, prec, low, size, binary32, round}
use lib.Ieee.Fits.{nearest-le}
use lib.Ieee.Nearest.{nearest-ge, closest}
use lib.Ieee.Digits.{size-le}
use lib.Ieee.Order.{drop}
use lib.Ieee.Scale.{grid, round_val}
use lib.Ieee.Exact.{HasValue}

-- g within w of n
pub record Off (g n w : ℕ) : Type 0 where
  pub low' : g ≤ n + w
  pub high' : n ≤ g + w

pub closest_off : (n u : ℕ) → 0 < u → Off (closest n u * u) n u
closest_off n u up =
    let q = n / u in
    let c = closest n u in
    record {
      low' = lo q c (mul-le-mul_right u (nearest-le q (compare (n % u * 2) u))) (div-mul-le_self n u);
      high' = hi q c (mul-le-mul_right u (nearest-ge q (compare (n % u * 2) u))) (lt-div-mul-add up);
    }
  where
    lo : (q c : ℕ) → c * u ≤ suc q * u → q * u ≤ n → c * u ≤ n + u
    lo q c a b = omega arith

    hi : (q c : ℕ) → q * u ≤ c * u → n < q * u + u → n ≤ c * u + u
    hi q c a b = omega arith

-- round f false a c, in units of the format's smallest value
pub grid_off : (f : Format) (a c t : ℕ) → 0 < c → a * 2 ^ low f < 2 ^ (prec f + t) * c → Off (grid f a c * c) (a * 2 ^ low f) (2 ^ t * c)
grid_off f a c t cp h =
    let n = a * 2 ^ low f in
    let k = drop (prec f) n c in
    let kt : k ≤ t = less (size (n / c)) (prec f) t (size-le (n / c) (prec f + t) ((div-lt_iff_lt-mul cp).1 h)) in
    let o = closest_off n (c * 2 ^ k) (mul-pos cp (pow_pos k)) in
    let w : 2 ^ k * c ≤ 2 ^ t * c = mul-le-mul_right c (pow_mono kt) in
    record {
      low' = lo (closest n (c * 2 ^ k)) (2 ^ k) (2 ^ t) n o.low' w;
      high' = hi (closest n (c * 2 ^ k)) (2 ^ k) (2 ^ t) n o.high' w;
    }
  where
    less : (s p t : ℕ) → s ≤ p + t → s - p ≤ t
    less s p t h = omega arith

    lo : (x k t n : ℕ) → x * (c * k) ≤ n + c * k → k * c ≤ t * c → x * k * c ≤ n + t * c
    lo x k t n a b = omega arith

    hi : (x k t n : ℕ) → n ≤ x * (c * k) + c * k → k * c ≤ t * c → n ≤ x * k * c + t * c
    hi x k t n a b = omega arith

-- cancel a factor
pub off_cancel : (g n w c : ℕ) → 0 < c → Off (g * c) (n * c) (w * c) → Off g n w
off_cancel g n w c cp o = record {
  low' = le_of_mul-le-mul_right (lo o.low') cp;
  high' = le_of_mul-le-mul_right (hi o.high') cp;
}
  where
    lo : g * c ≤ n * c + w * c → g * c ≤ (n + w) * c
    lo h = omega arith

    hi : n * c ≤ g * c + w * c → n * c ≤ (g + w) * c
    hi h = omega arith

-- G c ≤ n + w c < (b + w) c
under : (G c n w b : ℕ) → 0 < c → G * c ≤ n + w * c → n < b * c → G < b + w
under G c n w b cp x y = lt_of_mul-lt-mul_right c (go x y)
  where
    go : G * c ≤ n + w * c → n < b * c → G * c < (b + w) * c
    go x y = omega arith

-- the value of a rounded fraction below 2^(t - 125), by its grid
pub rounded : (a c t : ℕ) → 0 < c → a * 2 ^ 149 < 2 ^ (24 + t) * c → t ≤ 250 → HasValue (round binary32 false a c) false (grid binary32 a c) (2 ^ 149)
rounded a c t cp h tl =
    round_val binary32 a c
    (lt_of_lt_of_le (under (grid binary32 a c) c (a * 2 ^ 149) (2 ^ t) (2 ^ (24 + t)) cp (grid_off binary32 a c t cp h).low' h)
    (sum (2 ^ (24 + t)) (2 ^ t) (2 ^ 274) (2 ^ 277) (pow_mono (l1 t tl)) (pow_mono (l2 t tl)) (lit≤ tt)))
  where
    l1 : (t : ℕ) → t ≤ 250 → 24 + t ≤ 274
    l1 t h = omega arith

    l2 : (t : ℕ) → t ≤ 250 → t ≤ 274
    l2 t h = omega arith

    sum : (a b c d : ℕ) → a ≤ c → b ≤ c → c + c ≤ d → a + b ≤ d
    sum a b c d x y z = omega arith
