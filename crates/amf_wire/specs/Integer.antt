-- Integers of 29 bits, as the unsigned number of the same bits (AMF 3, 3.6).
use Rattle.std.specs.Prelude.{ℕ, ◌-◌, ◌^◌, ◌<◌, ℤ, pos, negsuc, ◌-ℤ◌, nat_lt, if◌then◌else◌}
use Rattle.amf_wire.specs.U29.{u29_end}

-- half of the numbers of 29 bits
abbrev pub integer_end : ℕ
integer_end = 2 ^ 28

-- from -2^28 to 2^28-1
abbrev pub IsInteger : ℤ → Type 0
IsInteger (pos n) = n < integer_end
IsInteger (negsuc n) = n < integer_end

-- two's complement, modulo 2^29; `negsuc n` is -n-1
abbrev pub integer_bits : ℤ → ℕ
integer_bits (pos n) = n
integer_bits (negsuc n) = (u29_end - 1) - n

-- the integer of these bits: from 2^28 on, 2^29 less
abbrev pub integer_of : ℕ → ℤ
integer_of n = if nat_lt n integer_end then pos n else (pos n -ℤ pos u29_end)
