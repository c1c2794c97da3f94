-- A value is sixteen bits read in two's complement.
--   value_of n   the value that the sixteen bits n stand for
--   bits_of v    the sixteen bits that stand for the value v
use Rattle.std.specs.Prelude.{ℕ, ◌-◌, cond, ℤ, pos, negsuc, ◌-ℤ◌, nat_lt}

-- 0000 to 7FFF stand for themselves, 8000 to FFFF for the number less 65,536.
abbrev pub value_of : ℕ → ℤ
value_of n = cond (nat_lt n 32768) (pos n) (pos n -ℤ pos 65536)

-- A value from 0 on has its own bits; below 0 it has those of the number 65,536 above it (negsuc n is -1 - n).
abbrev pub bits_of : ℤ → ℕ
bits_of (pos n) = n
bits_of (negsuc n) = 65535 - n
