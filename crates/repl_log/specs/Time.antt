-- Defines the text of a timestamp as an IMF-fixdate (RFC 9110, 5.6.7), with the calendar and format of the crate
-- httpdate.
use Rattle.std.specs.Prelude.{ℕ, zero, suc, ◌+◌, ◌-◌, ◌/◌, ◌%◌, nat_lt, if◌then◌else◌, List}
use Rattle.httpdate.specs.declared.parts.Parts.{Parts}
use Rattle.httpdate.specs.Calendar.{days_of_years, days_of_months, weekday}
use Rattle.httpdate.specs.Text.{imf_fixdate}

-- The first number m with x < f (m + 1), among the `left` numbers that begin with n. If x < f (m + 1) is false for all
-- `left` numbers m, the value is the next number, n + `left`.
unfoldable pub place_from : ℕ → ℕ → (ℕ → ℕ) → ℕ → ℕ
place_from zero n f x = n
place_from (suc left) n f x = if nat_lt x (f (n + 1)) then n else place_from left (n + 1) f x

-- The year of a day, up to 9999. Days are counted from 1 January 1970, which is day 0.
unfoldable pub year_of : ℕ → ℕ
year_of day = 1970 + place_from 8029 0 days_of_years day

-- The number of days between 1 January of a day's year and the day.
unfoldable pub day_of_year : ℕ → ℕ
day_of_year day = day - days_of_years (year_of day - 1970)

-- The month of a day, from 1 to 12.
unfoldable pub month_of : ℕ → ℕ
month_of day = 1 + place_from 11 0 (days_of_months (year_of day)) (day_of_year day)

-- The number of a day within its month, from 1.
unfoldable pub day_of_month : ℕ → ℕ
day_of_month day = 1 + (day_of_year day - days_of_months (year_of day) (month_of day - 1))

-- The date and time of a timestamp in seconds since 1970, as separate numbers.
unfoldable pub parts_of : ℕ → Parts
parts_of seconds =
    let day = seconds / 86400 in
    record {
      year = year_of day;
      mon = month_of day;
      day = day_of_month day;
      hour = seconds % 86400 / 3600;
      min = seconds % 3600 / 60;
      sec = seconds % 60;
      wday = weekday day;
    }

-- The text of a timestamp in seconds since 1970.
unfoldable pub time_text : ℕ → List ℕ
time_text seconds = imf_fixdate (parts_of seconds)
