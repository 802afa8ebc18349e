use Rattle.std.specs.Prelude.{ℕ, zero, suc, ◌+◌, ◌*◌, ◌/◌, ◌%◌, ◌^◌, List, ◌++◌, length, codes, decimal}
use Rattle.std.specs.List.{flat_map, range_with_len}

-- the number that follows another one: a linear congruence on 64 bits
unfoldable pub following : ℕ → ℕ
following number = (6364136223846793005 * number + 1442695040888963407) % 2 ^ 64

-- the n-th number from a seed, which is the 0-th
abbrev pub number_of : ℕ → ℕ → ℕ
number_of seed zero = seed
number_of seed (suc n) = following (number_of seed n)

-- what an instance is given of its number: 1 to 4 processors by the highest two bits, 64 to 1024 MiB of memory in steps
-- of 64 by the four bits below bit 62, and 100 to 1000 processes in steps of 100 by the bits from 54 on
abbrev pub cpu_by : ℕ → ℕ
cpu_by number = 1 + number / 2 ^ 62

abbrev pub memory_by : ℕ → ℕ
memory_by number = 64 * (1 + number / 2 ^ 58 % 16)

abbrev pub processes_by : ℕ → ℕ
processes_by number = 100 * (1 + number / 2 ^ 54 % 10)

-- a request with a body
abbrev pub request : List ℕ → List ℕ → List ℕ
request line body = line ++ codes " HTTP/1.1\r\nHost: localhost\r\nContent-Length: " ++ decimal (length body)
    ++ codes "\r\n\r\n" ++ body

-- a pool
abbrev pub pool_body : List ℕ
pool_body = codes "{\"driver\":\"dir\",\"name\":\"pool0\"}"

-- a restricted project with limits, of which that on instances is reached first
abbrev pub project_body : List ℕ
project_body =
    codes "{\"config\":{\"limits.cpu\":\"1000\",\"limits.disk\":\"1TiB\",\"limits.instances\":\"32\",\"limits.memory\":\"1TiB\",\"limits.processes\":\"100000\",\"restricted\":\"true\"},\"name\":\"lab\"}"

-- a root disk for its instances
abbrev pub profile_body : List ℕ
profile_body = codes "{\"devices\":{\"root\":{\"path\":\"/\",\"pool\":\"pool0\",\"size\":\"10GiB\",\"type\":\"disk\"}}}"

-- the three requests before the creations
unfoldable pub opening : List ℕ
opening =
    request (codes "POST /1.0/storage-pools") pool_body
    ++ request (codes "POST /1.0/projects") project_body
    ++ request (codes "PUT /1.0/profiles/default?project=lab") profile_body

-- the settings of the n-th instance by its number
abbrev pub instance_body : ℕ → ℕ → List ℕ
instance_body n number =
    codes "{\"config\":{\"limits.cpu\":\"" ++ decimal (cpu_by number)
    ++ codes "\",\"limits.memory\":\"" ++ decimal (memory_by number)
    ++ codes "MiB\",\"limits.processes\":\"" ++ decimal (processes_by number)
    ++ codes "\"},\"name\":\"i" ++ decimal n
    ++ codes "\",\"source\":{\"type\":\"none\"}}"

-- the creation of the n-th instance by its number
unfoldable pub creation : ℕ → ℕ → List ℕ
creation n number = request (codes "POST /1.0/instances?project=lab") (instance_body n number)

-- the whole stream: the opening, and the creations of the instances 1 to count
unfoldable pub stream_of : ℕ → ℕ → List ℕ
stream_of seed count = opening ++ flat_map (λ n. creation n (number_of seed n)) (range_with_len 1 count)
