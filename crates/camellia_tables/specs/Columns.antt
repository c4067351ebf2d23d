-- The eight tables of F: a byte substituted, at each place that its column of P has.
use Rattle.std.specs.Prelude.{ℕ, ◌*◌, ◌/◌, ◌%◌, ◌^◌, List, [], ◌∷◌, map, slice_index, slice_index_or}
use Rattle.std.specs.List.{range_with_len}
use Rattle.camellia.specs.Numbers.{rotl, rotr, ◌⊕◌}

-- SBOX1 once more, as a list that computes where a contract cites it
abbrev box1 : List ℕ
box1 =
    112 ∷ 130 ∷ 44 ∷ 236 ∷ 179 ∷ 39 ∷ 192 ∷ 229 ∷ 228 ∷ 133 ∷ 87 ∷ 53 ∷ 234 ∷ 12 ∷ 174 ∷ 65 ∷
    35 ∷ 239 ∷ 107 ∷ 147 ∷ 69 ∷ 25 ∷ 165 ∷ 33 ∷ 237 ∷ 14 ∷ 79 ∷ 78 ∷ 29 ∷ 101 ∷ 146 ∷ 189 ∷
    134 ∷ 184 ∷ 175 ∷ 143 ∷ 124 ∷ 235 ∷ 31 ∷ 206 ∷ 62 ∷ 48 ∷ 220 ∷ 95 ∷ 94 ∷ 197 ∷ 11 ∷ 26 ∷
    166 ∷ 225 ∷ 57 ∷ 202 ∷ 213 ∷ 71 ∷ 93 ∷ 61 ∷ 217 ∷ 1 ∷ 90 ∷ 214 ∷ 81 ∷ 86 ∷ 108 ∷ 77 ∷
    139 ∷ 13 ∷ 154 ∷ 102 ∷ 251 ∷ 204 ∷ 176 ∷ 45 ∷ 116 ∷ 18 ∷ 43 ∷ 32 ∷ 240 ∷ 177 ∷ 132 ∷ 153 ∷
    223 ∷ 76 ∷ 203 ∷ 194 ∷ 52 ∷ 126 ∷ 118 ∷ 5 ∷ 109 ∷ 183 ∷ 169 ∷ 49 ∷ 209 ∷ 23 ∷ 4 ∷ 215 ∷
    20 ∷ 88 ∷ 58 ∷ 97 ∷ 222 ∷ 27 ∷ 17 ∷ 28 ∷ 50 ∷ 15 ∷ 156 ∷ 22 ∷ 83 ∷ 24 ∷ 242 ∷ 34 ∷
    254 ∷ 68 ∷ 207 ∷ 178 ∷ 195 ∷ 181 ∷ 122 ∷ 145 ∷ 36 ∷ 8 ∷ 232 ∷ 168 ∷ 96 ∷ 252 ∷ 105 ∷ 80 ∷
    170 ∷ 208 ∷ 160 ∷ 125 ∷ 161 ∷ 137 ∷ 98 ∷ 151 ∷ 84 ∷ 91 ∷ 30 ∷ 149 ∷ 224 ∷ 255 ∷ 100 ∷ 210 ∷
    16 ∷ 196 ∷ 0 ∷ 72 ∷ 163 ∷ 247 ∷ 117 ∷ 219 ∷ 138 ∷ 3 ∷ 230 ∷ 218 ∷ 9 ∷ 63 ∷ 221 ∷ 148 ∷
    135 ∷ 92 ∷ 131 ∷ 2 ∷ 205 ∷ 74 ∷ 144 ∷ 51 ∷ 115 ∷ 103 ∷ 246 ∷ 243 ∷ 157 ∷ 127 ∷ 191 ∷ 226 ∷
    82 ∷ 155 ∷ 216 ∷ 38 ∷ 200 ∷ 55 ∷ 198 ∷ 59 ∷ 129 ∷ 150 ∷ 111 ∷ 75 ∷ 19 ∷ 190 ∷ 99 ∷ 46 ∷
    233 ∷ 121 ∷ 167 ∷ 140 ∷ 159 ∷ 110 ∷ 188 ∷ 142 ∷ 41 ∷ 245 ∷ 249 ∷ 182 ∷ 47 ∷ 253 ∷ 180 ∷ 89 ∷
    120 ∷ 152 ∷ 6 ∷ 106 ∷ 231 ∷ 70 ∷ 113 ∷ 186 ∷ 212 ∷ 37 ∷ 171 ∷ 66 ∷ 136 ∷ 162 ∷ 141 ∷ 250 ∷
    114 ∷ 7 ∷ 185 ∷ 85 ∷ 248 ∷ 238 ∷ 172 ∷ 10 ∷ 54 ∷ 73 ∷ 42 ∷ 104 ∷ 60 ∷ 56 ∷ 241 ∷ 164 ∷
    64 ∷ 40 ∷ 211 ∷ 123 ∷ 187 ∷ 201 ∷ 67 ∷ 193 ∷ 21 ∷ 227 ∷ 173 ∷ 244 ∷ 119 ∷ 199 ∷ 128 ∷ 158 ∷ []

-- s1 to s4 by that list
abbrev t1 : ℕ → ℕ
t1 y = slice_index box1 y

abbrev t2 : ℕ → ℕ
t2 y = rotl 8 1 (t1 y)

abbrev t3 : ℕ → ℕ
t3 y = rotr 8 1 (t1 y)

abbrev t4 : ℕ → ℕ
t4 y = t1 (rotl 8 1 y)

-- the substitutions of the eight bytes of a half
abbrev boxes : List (ℕ → ℕ)
boxes = t1 ∷ t2 ∷ t3 ∷ t4 ∷ t2 ∷ t3 ∷ t4 ∷ t1 ∷ []

-- the columns of P: a byte for each row, 1 where the row has the column
abbrev columns : List ℕ
columns =
    0x0101010001000001 ∷ 0x0001010101010000 ∷ 0x0100010100010100 ∷ 0x0101000100000101
    ∷ 0x0001010100010101 ∷ 0x0100010101000101 ∷ 0x0101000101010001 ∷ 0x0101010001010100 ∷ []

-- what the byte y at place i of a half adds to F
abbrev pub spread : ℕ → ℕ → ℕ
spread i y = slice_index_or boxes i t1 y * slice_index columns i

-- S and P of y, by its bytes
abbrev pub sums : ℕ → ℕ
sums y =
    spread 0 (y / 2 ^ 56 % 256) ⊕ spread 1 (y / 2 ^ 48 % 256) ⊕ spread 2 (y / 2 ^ 40 % 256) ⊕ spread 3 (y / 2 ^ 32 % 256)
    ⊕ spread 4 (y / 2 ^ 24 % 256) ⊕ spread 5 (y / 2 ^ 16 % 256) ⊕ spread 6 (y / 2 ^ 8 % 256) ⊕ spread 7 (y % 256)

abbrev pub tables : List (List ℕ)
tables = map (λ i. map (spread i) (range_with_len 0 256)) (range_with_len 0 8)
