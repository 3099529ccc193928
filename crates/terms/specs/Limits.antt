-- The limits of the rules, by name.
use Rattle.std.specs.Prelude.{ℕ, Bool, ◌&&◌, nat_le}

abbrev pub last_member : ℕ
last_member = 64

abbrev pub last_segment : ℕ
last_segment = 5

abbrev pub day_limit : ℕ
day_limit = 1000000

abbrev pub most_scenarios : ℕ
most_scenarios = 64

abbrev pub most_assets : ℕ
most_assets = 64

abbrev pub most_positions : ℕ
most_positions = 64

-- a price change, up or down, in pesos
abbrev pub change_limit : ℕ
change_limit = 1000000

-- a position's quantity, long or short
abbrev pub quantity_limit : ℕ
quantity_limit = 10000000

-- a required or posted margin, in pesos
abbrev pub margin_limit : ℕ
margin_limit = 1000000000000

-- a column of a tally, in pesos
abbrev pub column_limit : ℕ
column_limit = 1000000000000

-- a figure, in mils: the column limit over one mil
abbrev pub figure_limit : ℕ
figure_limit = 1000000000

-- the changes of the largest sheet
abbrev pub most_changes : ℕ
most_changes = 4096

-- the bytes of a day file
abbrev pub most_file_bytes : ℕ
most_file_bytes = 60000

-- one mil in pesos
abbrev pub mil : ℕ
mil = 1000

-- the records of the two tables
abbrev pub all_seats : ℕ
all_seats = 320

abbrev pub all_pledges : ℕ
all_pledges = 64

-- a minimum, in mils
abbrev pub minimum_limit : ℕ
minimum_limit = 1000000

-- an amount that is asked, paid or pledged, in mils
abbrev pub amount_limit : ℕ
amount_limit = 1000000000

-- what a segment holds, in mils
abbrev pub held_limit : ℕ
held_limit = 2000000000

-- the days in a mean
abbrev pub most_days : ℕ
most_days = 66

-- the total of a split, and what its weights add to
abbrev pub split_limit : ℕ
split_limit = 2000000000

-- the least that is asked of a treasury, in mils
abbrev pub treasury_floor : ℕ
treasury_floor = 700000

-- equity may be short by one part in so many of what is required
abbrev pub equity_parts : ℕ
equity_parts = 10

-- the members of a house: the rows that a call answers by member, and the most means of a segment
abbrev pub all_members : ℕ
all_members = 64

-- the size of a fund, in mils
abbrev pub fund_limit : ℕ
fund_limit = 1000000000

-- what is asked of a member is a multiple of this, in mils
abbrev pub rounding_step : ℕ
rounding_step = 10000

-- a number from low to high, both of them good
abbrev pub within : ℕ → ℕ → ℕ → Bool
within low high x = nat_le low x && nat_le x high
